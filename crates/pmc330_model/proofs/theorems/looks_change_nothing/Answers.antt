use Rattle.pmc330_model.proofs.Looks.{looks_change_nothing}
use Rattle.pmc330_model.proofs.theorems.looks_change_nothing.Goals as goal

pub returns : goal.returns
returns c = looks_change_nothing
