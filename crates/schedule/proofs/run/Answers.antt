use mathlib.Core.Bool.{Bool, true, false, cond}
use mathlib.Core.Logic.{inl, inr}
use mathlib.Core.Path.{◌≡◌, refl, sym, ap, ◌∙◌}
use native.Mathlib.Omega.{arith}
use Rattle.std.specs.Int.{from_bool}
use Rattle.schedule.specs.Timer.{step_to}
use Rattle.schedule.specs.Scan.{scan}
use Rattle.schedule.proofs.Runs.{turn_fits, turn_on, over_scan, over_stores}
use Rattle.schedule.proofs.Conversions.{tested, conversion_fits, conversion_on}
use Rattle.schedule.proofs.run.Goals as goal

as_number : (b : Bool) → from_bool b ≡ cond b 1 0
as_number true = refl
as_number false = refl

-- a turn that makes a conversion
pub overflow_add-made : goal.overflow_add-made
overflow_add-made g c =
    let fits = conversion_fits c.args.plan g.S.Sink.effects c.args.ticks c.loop-left.left c.loop-left.made
    (scan c.args.timer (g.S.Sink.seen c.args.sink.now)) (scan c.loop-left.now (g.S.Sink.seen c.loop-left.sink)) c.loop-left.invariant c.if-now.true
    (tested c.args.plan c.loop-left.left c.loop-left.now (sym c.converts.ensures ∙ c.if-converts.true)) in
    omega (arith, fits, c.ranges.ticks)

pub loop-left-preserved-then-converts : goal.loop-left-preserved-then-converts
loop-left-preserved-then-converts g c =
    conversion_on c.args.plan g.S.Sink.effects c.args.ticks c.loop-left.left c.loop-left.made
    (scan c.args.timer (g.S.Sink.seen c.args.sink.now)) (scan c.loop-left.now (g.S.Sink.seen c.loop-left.sink)) c.loop-left.invariant c.if-now.true
    (tested c.args.plan c.loop-left.left c.loop-left.now (sym c.converts.ensures ∙ c.if-converts.true))
    _ c.convert-now.ensures

-- a turn that jumps
pub overflow_add-made-else-converts : goal.overflow_add-made-else-converts
overflow_add-made-else-converts g c =
    let fits = turn_fits c.args.plan g.S.Sink.effects c.args.ticks c.loop-left.left c.loop-left.made
    (scan c.args.timer (g.S.Sink.seen c.args.sink.now)) (scan c.loop-left.now (g.S.Sink.seen c.loop-left.sink)) c.loop-left.invariant
    c.loop-left-test.true c.if-now.true c.nearer-n.result c.from-made.result
    (c.nearer-n.ensures ∙ ap (step_to c.loop-left.now.lead) c.nearer.ensures)
    (c.from-made.ensures ∙ as_number _) in
    omega (arith, fits, c.ranges.ticks)

pub loop-left-preserved : goal.loop-left-preserved
loop-left-preserved g c =
    turn_on c.args.plan g.S.Sink.effects c.args.ticks c.loop-left.left c.loop-left.made
    (scan c.args.timer (g.S.Sink.seen c.args.sink.now)) (scan c.loop-left.now (g.S.Sink.seen c.loop-left.sink)) c.loop-left.invariant
    c.loop-left-test.true c.if-now.true c.nearer-n.result c.from-made.result
    (c.nearer-n.ensures ∙ ap (step_to c.loop-left.now.lead) c.nearer.ensures)
    (c.from-made.ensures ∙ as_number _)
    _ c.jump-now.ensures

pub returns-else-now-clause-scan : goal.returns-else-now-clause-scan
returns-else-now-clause-scan g c =
    over_scan c.args.plan g.S.Sink.effects c.args.ticks c.loop-left.left c.loop-left.made _ _ c.loop-left.invariant (inr c.if-now.false)

pub returns-else-now-clause-stores : goal.returns-else-now-clause-stores
returns-else-now-clause-stores g c =
    over_stores c.args.plan g.S.Sink.effects c.args.ticks c.loop-left.left c.loop-left.made _ _ c.loop-left.invariant (inr c.if-now.false)

pub returns-after-loop-left-clause-scan : goal.returns-after-loop-left-clause-scan
returns-after-loop-left-clause-scan g c =
    let none : c.loop-left.left ≡ 0 = omega (arith, c.loop-left-test.false) in
    over_scan c.args.plan g.S.Sink.effects c.args.ticks c.loop-left.left c.loop-left.made _ _ c.loop-left.invariant (inl none)

pub returns-after-loop-left-clause-stores : goal.returns-after-loop-left-clause-stores
returns-after-loop-left-clause-stores g c =
    let none : c.loop-left.left ≡ 0 = omega (arith, c.loop-left-test.false) in
    over_stores c.args.plan g.S.Sink.effects c.args.ticks c.loop-left.left c.loop-left.made _ _ c.loop-left.invariant (inl none)
