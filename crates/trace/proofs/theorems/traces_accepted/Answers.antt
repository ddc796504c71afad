use Rattle.trace.proofs.Sentences.{traces_accepted}
use Rattle.trace.proofs.theorems.traces_accepted.Goals as goal

pub returns : goal.returns
returns c = traces_accepted
