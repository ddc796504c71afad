use Rattle.pmc330_model.proofs.Sentences.{ticks_counted}
use Rattle.pmc330_model.proofs.theorems.ticks_counted.Goals as goal

pub returns : goal.returns
returns c = ticks_counted
