use Rattle.schedule.proofs.Sentences.{spans_repeated}
use Rattle.schedule.proofs.theorems.spans_repeated.Goals as goal

pub returns : goal.returns
returns c = spans_repeated
