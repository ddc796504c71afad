use Rattle.trace.proofs.Sentences.{traces_refused}
use Rattle.trace.proofs.theorems.traces_refused.Goals as goal

pub returns : goal.returns
returns c = traces_refused
