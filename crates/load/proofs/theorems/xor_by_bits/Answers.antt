use Rattle.load.proofs.Sentences.{xor_by_bits}
use Rattle.load.proofs.theorems.xor_by_bits.Goals as goal

pub returns : goal.returns
returns c = xor_by_bits
