use Rattle.pmc330_model.proofs.Sentences.{answers_agree}
use Rattle.pmc330_model.proofs.theorems.answers_agree.Goals as goal

pub returns : goal.returns
returns c = answers_agree
