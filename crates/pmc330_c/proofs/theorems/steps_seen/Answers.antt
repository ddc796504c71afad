use Rattle.pmc330_c.proofs.Sentences.{steps_seen}
use Rattle.pmc330_c.proofs.theorems.steps_seen.Goals as goal

pub returns : goal.returns
returns c = steps_seen
