use Rattle.pmc330_model.proofs.Sentences.{advance_joins}
use Rattle.pmc330_model.proofs.theorems.advance_joins.Goals as goal

pub returns : goal.returns
returns c = advance_joins
