use Rattle.pmc330_model.proofs.ChannelWait.{burst_waiting_time}
use Rattle.pmc330_model.proofs.theorems.burst_waiting_time.Goals as goal

pub returns : goal.returns
returns c = burst_waiting_time
