use Rattle.schedule.proofs.Sentences.{conversions_join}
use Rattle.schedule.proofs.theorems.conversions_join.Goals as goal

pub returns : goal.returns
returns c = conversions_join
