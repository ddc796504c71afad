use Rattle.load.proofs.Examples.{load_examples}
use Rattle.load.proofs.theorems.load_examples.Goals as goal

pub returns : goal.returns
returns c = load_examples
