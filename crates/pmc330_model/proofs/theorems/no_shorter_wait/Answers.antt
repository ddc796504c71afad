use Rattle.pmc330_model.proofs.ChannelWait.{no_shorter_wait}
use Rattle.pmc330_model.proofs.theorems.no_shorter_wait.Goals as goal

pub returns : goal.returns
returns c = no_shorter_wait
