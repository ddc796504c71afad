use Rattle.pmc330_model.proofs.Sentences.{advances_join}
use Rattle.pmc330_model.proofs.theorems.advances_join.Goals as goal

pub returns : goal.returns
returns c = advances_join
