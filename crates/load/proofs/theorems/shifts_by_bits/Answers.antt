use Rattle.load.proofs.Sentences.{shifts_by_bits}
use Rattle.load.proofs.theorems.shifts_by_bits.Goals as goal

pub returns : goal.returns
returns c = shifts_by_bits
