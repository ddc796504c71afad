use Rattle.load.proofs.Sentences.{loads_played}
use Rattle.load.proofs.theorems.loads_played.Goals as goal

pub returns : goal.returns
returns c = loads_played
