use Rattle.pmc330_model.proofs.Sentences.{new_boards}
use Rattle.pmc330_model.proofs.theorems.new_boards.Goals as goal

pub returns : goal.returns
returns c = new_boards
