use Rattle.load.proofs.Sentences.{loads_answered}
use Rattle.load.proofs.theorems.loads_answered.Goals as goal

pub returns : goal.returns
returns c = loads_answered
