use Rattle.schedule.proofs.Sentences.{times_kept}
use Rattle.schedule.proofs.theorems.times_kept.Goals as goal

pub returns : goal.returns
returns c = times_kept
