use Rattle.trace.proofs.Sentences.{plays_packed}
use Rattle.trace.proofs.theorems.plays_packed.Goals as goal

pub returns : goal.returns
returns c = plays_packed
