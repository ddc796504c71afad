use Rattle.pmc330_model.proofs.ChannelWait.{short_misses}
use Rattle.pmc330_model.proofs.theorems.short_misses.Goals as goal

pub returns : goal.returns
returns c = short_misses
