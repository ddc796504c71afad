use Rattle.pmc330_model.proofs.ChannelWait.{slot_waiting_time}
use Rattle.pmc330_model.proofs.theorems.slot_waiting_time.Goals as goal

pub returns : goal.returns
returns c = slot_waiting_time
