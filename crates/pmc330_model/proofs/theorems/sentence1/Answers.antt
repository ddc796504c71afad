use Rattle.pmc330_model.proofs.Sentences.{sentence1}
use Rattle.pmc330_model.proofs.theorems.sentence1.Goals as goal

pub returns : goal.returns
returns c = sentence1
