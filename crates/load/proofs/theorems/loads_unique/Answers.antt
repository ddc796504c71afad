use Rattle.load.proofs.Sentences.{loads_unique}
use Rattle.load.proofs.theorems.loads_unique.Goals as goal

pub returns : goal.returns
returns c = loads_unique
