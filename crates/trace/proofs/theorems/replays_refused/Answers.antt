use Rattle.trace.proofs.Replays.{replays_refused}
use Rattle.trace.proofs.theorems.replays_refused.Goals as goal

pub returns : goal.returns
returns c = replays_refused
