use Rattle.schedule.proofs.Sentences.{spans_join}
use Rattle.schedule.proofs.theorems.spans_join.Goals as goal

pub returns : goal.returns
returns c = spans_join
