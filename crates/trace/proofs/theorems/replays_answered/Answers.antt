use Rattle.trace.proofs.Replays.{replays_answered}
use Rattle.trace.proofs.theorems.replays_answered.Goals as goal

pub returns : goal.returns
returns c = replays_answered
