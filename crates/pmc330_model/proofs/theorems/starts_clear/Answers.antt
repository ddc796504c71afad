use Rattle.pmc330_model.proofs.Sentences.{starts_clear}
use Rattle.pmc330_model.proofs.theorems.starts_clear.Goals as goal

pub returns : goal.returns
returns c = starts_clear
