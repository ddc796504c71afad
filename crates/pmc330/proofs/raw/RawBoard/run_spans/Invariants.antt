-- What is left, from the board as it now is, ends where the whole run does.
use mathlib.Core.Path.{◌≡◌}
use Rattle.schedule.proofs.Runs.{Partway}
use Rattle.pmc330_model.specs.Plan.{plan_of}
use Rattle.pmc330_model.specs.Board.{board_effects}
use Rattle.pmc330_model.proofs.Jumps.{bare}
use Rattle.pmc330.specs.Raw.{Plain, board_of, registers_of}
use Rattle.pmc330.proofs.raw.RawBoard.run_spans.Given as goal

abbrev pub invariant-loop-left : goal.invariant-loop-left
invariant-loop-left l = record {
  run : Partway (plan_of (registers_of l.initial.self)) board_effects l.ticks l.left l.made (bare (board_of l.initial.self)) (bare (board_of l.self));
  mode : registers_of l.self ≡ registers_of l.initial.self;
  spare : l.self.spare ≡ l.initial.self.spare;
  plain : Plain l.initial.self → Plain l.self;
}

abbrev pub decreases-loop-left : goal.decreases-loop-left
decreases-loop-left l = l.left
