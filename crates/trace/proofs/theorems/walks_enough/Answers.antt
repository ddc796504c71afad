use Rattle.trace.proofs.Sentences.{walks_enough}
use Rattle.trace.proofs.theorems.walks_enough.Goals as goal

pub returns : goal.returns
returns c = walks_enough
