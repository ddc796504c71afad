use Rattle.window.proofs.Examples.{window_example}
use Rattle.window.proofs.theorems.window_example.Goals as goal

pub returns : goal.returns
returns c = window_example
