use Rattle.lines.proofs.Examples.{line_examples}
use Rattle.lines.proofs.theorems.line_examples.Goals as goal

pub returns : goal.returns
returns c = line_examples
