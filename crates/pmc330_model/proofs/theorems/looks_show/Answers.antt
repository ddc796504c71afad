use Rattle.pmc330_model.proofs.Looks.{looks_show}
use Rattle.pmc330_model.proofs.theorems.looks_show.Goals as goal

pub returns : goal.returns
returns c = looks_show
