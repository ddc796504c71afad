-- What is left, from the scan as it now is, ends where the whole run does.
use Rattle.schedule.specs.Scan.{scan}
use Rattle.schedule.proofs.Runs.{Partway}
use Rattle.schedule.proofs.run.Given as goal

abbrev pub invariant-loop-left : goal.invariant-loop-left
invariant-loop-left g l =
    Partway l.plan g.S.Sink.effects l.ticks l.left l.made (scan l.fn.timer (g.S.Sink.seen l.initial.sink)) (scan l.now (g.S.Sink.seen l.sink))

abbrev pub decreases-loop-left : goal.decreases-loop-left
decreases-loop-left g l = l.left
