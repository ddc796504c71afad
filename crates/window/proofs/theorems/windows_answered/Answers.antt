use Rattle.window.proofs.Sentences.{windows_answered}
use Rattle.window.proofs.theorems.windows_answered.Goals as goal

pub returns : goal.returns
returns c = windows_answered
