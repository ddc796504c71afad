-- Number, index and count of each case; the sum fits, since index and count are small.
use mathlib.Core.Path.{sym, subst}
use native.Mathlib.Omega.{arith}
use Rattle.trace.proofs.Replays.{Small, SmallFound, replay_small}
use Rattle.pmc330_c.proofs.pmc330_replay.Goals as goal

pub overflow_add-result : goal.overflow_add-result
overflow_add-result c =
    let found = subst (Small 5_592_405) (sym c.in-Ok-Differs.ensures) (replay_small c.args.trace.now) in
    let small = subst (SmallFound 5_592_405) c.in-Ok-Differs.field-0-is found in
    omega (arith, small.index, small.count)
