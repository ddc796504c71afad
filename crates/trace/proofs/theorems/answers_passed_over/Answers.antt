use Rattle.trace.proofs.PassedOver.{answers_passed_over}
use Rattle.trace.proofs.theorems.answers_passed_over.Goals as goal

pub returns : goal.returns
returns c = answers_passed_over
