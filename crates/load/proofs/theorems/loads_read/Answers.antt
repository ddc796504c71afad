use Rattle.load.proofs.Sentences.{loads_read}
use Rattle.load.proofs.theorems.loads_read.Goals as goal

pub returns : goal.returns
returns c = loads_read
