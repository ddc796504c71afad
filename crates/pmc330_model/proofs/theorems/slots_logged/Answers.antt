use Rattle.pmc330_model.proofs.Looks.{slots_logged}
use Rattle.pmc330_model.proofs.theorems.slots_logged.Goals as goal

pub returns : goal.returns
returns c = slots_logged
