use Rattle.pmc330_model.proofs.Sentences.{opened_empty}
use Rattle.pmc330_model.proofs.theorems.opened_empty.Goals as goal

pub returns : goal.returns
returns c = opened_empty
