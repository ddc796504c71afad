use Rattle.pmc330_model.proofs.Sentences.{schedule}
use Rattle.pmc330_model.proofs.theorems.schedule.Goals as goal

pub returns : goal.returns
returns c = schedule
