use Rattle.pmc330_model.proofs.ChannelWait.{waiting_time}
use Rattle.pmc330_model.proofs.theorems.waiting_time.Goals as goal

pub returns : goal.returns
returns c = waiting_time
