use Rattle.analog.proofs.Sentences.{correction_answered}
use Rattle.analog.proofs.theorems.correction_answered.Goals as goal

pub returns : goal.returns
returns c = correction_answered
