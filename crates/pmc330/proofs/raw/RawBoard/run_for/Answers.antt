-- The run of the struct's bytes is the board's run by definition.
use mathlib.Core.Path.{◌≡◌, sym, ap, ap₂, subst, ◌∙◌}
use Rattle.schedule.specs.Scan.{Scan, scan}
use Rattle.schedule.specs.Scan as schedule
use Rattle.schedule.specs.declared.Plan.{Plan}
use Rattle.schedule.specs.declared.Timer.{Timer}
use Rattle.pmc330_model.specs.Board.{scanned}
use Rattle.pmc330_model.proofs.Jumps.{timed_board, timed_stores}
use Rattle.pmc330_model.specs.Plan.{plan_of}
use Rattle.pmc330.specs.Raw.{Plain, board_of, registers_of, timer_of}
use Rattle.pmc330.specs.RawTime.{raw_effects}
use Rattle.pmc330.specs.declared.raw.RawBoard.{RawBoard}
use Rattle.pmc330.proofs.RawTimeLaws.{run_seen, run_stores_seen, run_spare, run_plain}
use Rattle.pmc330.proofs.raw.RawBoard.run_for.Goals as goal
use Rattle.pmc330.proofs.raw.RawBoard.run_for.Goals.{After-set_timer}

-- the struct and its timer after the run
ran :
    (c : After-set_timer)
    → scan c.run-passed.result.timer c.run-passed.new.sink
    ≡ schedule.advanced (plan_of (registers_of c.args.self.now)) raw_effects c.args.ticks (scan (timer_of c.args.self.now) c.args.self.now)
ran c =
    c.run-passed.ensures.scan
    ∙ ap₂ (λ (p : Plan) (t : Timer). schedule.advanced p raw_effects c.args.ticks (scan t c.args.self.now)) c.plan.ensures c.timer.ensures

pub returns-clause-board : goal.returns-clause-board
returns-clause-board c =
    let h = c.args.self.now in
    c.set_timer.ensures.board
    ∙ ap (λ (s : Scan RawBoard). scanned (scan s.timer (board_of s.board))) (ran c)
    ∙ ap scanned (run_seen (plan_of (registers_of h)) c.args.ticks (scan (timer_of h) h))
    ∙ sym (timed_board c.args.ticks (board_of h) c.requires)

pub returns-clause-spare : goal.returns-clause-spare
returns-clause-spare c =
    let h = c.args.self.now in
    c.set_timer.ensures.spare
    ∙ ap (λ (s : Scan RawBoard). s.board.spare) (ran c)
    ∙ run_spare (plan_of (registers_of h)) c.args.ticks (scan (timer_of h) h)

pub returns-clause-plain : goal.returns-clause-plain
returns-clause-plain c =
    let h = c.args.self.now in
    λ plain.
    c.set_timer.ensures.plain
    (subst Plain (sym (ap (λ (s : Scan RawBoard). s.board) (ran c))) (run_plain (plan_of (registers_of h)) c.args.ticks (scan (timer_of h) h) plain))

pub returns-clause-stores : goal.returns-clause-stores
returns-clause-stores c =
    let h = c.args.self.now in
    c.run-passed.ensures.stores
    ∙ ap₂ (λ (p : Plan) (t : Timer). schedule.stores_in p raw_effects c.args.ticks (scan t h)) c.plan.ensures c.timer.ensures
    ∙ run_stores_seen (plan_of (registers_of h)) c.args.ticks (scan (timer_of h) h)
    ∙ sym (timed_stores c.args.ticks (board_of h) c.requires)
