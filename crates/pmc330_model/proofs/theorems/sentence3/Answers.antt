use Rattle.pmc330_model.proofs.Sentences.{sentence3}
use Rattle.pmc330_model.proofs.theorems.sentence3.Goals as goal

pub returns : goal.returns
returns c = sentence3
