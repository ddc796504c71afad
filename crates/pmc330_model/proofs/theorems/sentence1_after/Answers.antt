use Rattle.pmc330_model.proofs.Sentences.{sentence1_after}
use Rattle.pmc330_model.proofs.theorems.sentence1_after.Goals as goal

pub returns : goal.returns
returns c = sentence1_after
