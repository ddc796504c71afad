use Rattle.trace.proofs.Replays.{replays_packed}
use Rattle.trace.proofs.theorems.replays_packed.Goals as goal

pub returns : goal.returns
returns c = replays_packed
