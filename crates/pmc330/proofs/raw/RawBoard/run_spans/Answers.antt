-- What is left, from the board as it now is, ends where the whole run does.
use mathlib.Core.Bool.{true}
use mathlib.Core.Logic.{◌⊎◌, inl, inr}
use mathlib.Core.Path.{◌≡◌, sym, ap, ◌∙◌}
use Prim.Native.Nat.{ℕ, ◌+◌, ◌-◌, ◌*◌, ◌≤◌}
use native.Mathlib.Nat.{zero-mul, div-mul-le_self}
use native.Mathlib.Omega.{arith}
use Rattle.schedule.specs.Scan.{advanced, stores_in}
use Rattle.schedule.specs.declared.Plan.{Plan}
use Rattle.schedule.proofs.Runs.{Partway, over_scan, over_stores}
use Rattle.schedule.proofs.Spans.{span_fits, span_on}
use Rattle.pmc330_model.specs.Schedule.{is_timed}
use Rattle.pmc330_model.specs.Plan.{plan_of}
use Rattle.pmc330_model.specs.Board.{board_effects, scanned}
use Rattle.pmc330_model.specs.declared.Registers.{Registers}
use Rattle.pmc330_model.specs.declared.Board.{Board}
use Rattle.pmc330_model.proofs.Jumps.{bare, bare_advanced, bare_stores, advanced_fixed}
use Rattle.pmc330.specs.Raw.{board_of, registers_of}
use Rattle.pmc330.proofs.RawTimeLaws.{movable_same, came_back}
use Rattle.pmc330.proofs.raw.RawBoard.run_spans.Goals as goal
use Rattle.pmc330.proofs.raw.RawBoard.run_spans.Goals.{Joined-same, then-same, else-same}

-- one turn of the loop
module _ (c : Joined-same) where
  abbrev p : Plan
  p = plan_of (registers_of c.args.self.now)

  abbrev now : Board
  now = board_of c.loop-left.self

  abbrev next : Board
  next = board_of c.run_for-stores.new.self

  abbrev part : ℕ
  part = c.part_of-part.result

  abbrev more : ℕ
  more = c.if-same.more

  still_timed : is_timed now.registers ≡ true
  still_timed = ap is_timed c.loop-left.invariant.mode ∙ c.requires

  next_is : bare next ≡ advanced p board_effects part (bare now)
  next_is =
      ap bare c.run_for-stores.ensures.board
      ∙ bare_advanced part now still_timed
      ∙ ap (λ (r : Registers). advanced (plan_of r) board_effects part (bare now)) c.loop-left.invariant.mode

  stores_are : c.run_for-stores.result ≡ stores_in p board_effects part (bare now)
  stores_are =
      c.run_for-stores.ensures.stores
      ∙ bare_stores part now still_timed
      ∙ ap (λ (r : Registers). stores_in (plan_of r) board_effects part (bare now)) c.loop-left.invariant.mode

  skip : more * part ≤ c.loop-left.left - part
  skip =
      elim c.if-same.branch [
        | then-same w ↦ grind (arith, w.more-is, div-mul-le_self)
        | else-same w ↦ grind (arith, w.more-is, zero-mul)
      ]

  back : (more ≡ 0) ⊎ (bare next ≡ bare now)
  back =
      elim c.if-same.branch [
        | then-same w ↦
            inr (ap bare (came_back part now next c.run_for-stores.ensures.board
            (sym c.movable.ensures ∙ movable_same _ _ (sym c.eq-same.ensures ∙ w.if-same.true) ∙ c.movable-before.ensures)))
        | else-same w ↦ inl w.more-is
      ]

  fits : c.loop-left.made + (c.run_for-stores.result + more * c.run_for-stores.result) ≤ c.args.ticks
  fits =
      span_fits p board_effects c.args.ticks c.loop-left.left c.loop-left.made part (bare (board_of c.args.self.now)) (bare now) c.loop-left.invariant.run
      c.part_of-part.ensures.most c.run_for-stores.result more (bare next) next_is stores_are skip back

  on :
      Partway p board_effects c.args.ticks (c.loop-left.left - part - more * part)
      (c.loop-left.made + (c.run_for-stores.result + more * c.run_for-stores.result)) (bare (board_of c.args.self.now)) (bare next)
  on =
      span_on p board_effects c.args.ticks c.loop-left.left c.loop-left.made part (bare (board_of c.args.self.now)) (bare now) c.loop-left.invariant.run
      c.part_of-part.ensures.most c.run_for-stores.result more (bare next) next_is stores_are skip back

  same_mode : registers_of c.run_for-stores.new.self ≡ registers_of c.args.self.now
  same_mode =
      ap (λ (b : Board). b.registers) c.run_for-stores.ensures.board
      ∙ (advanced_fixed part now).registers
      ∙ c.loop-left.invariant.mode

pub overflow_mul-made : goal.overflow_mul-made
overflow_mul-made c = omega (arith, fits (goal.at.overflow_mul-made c).Joined-same, c.ranges.ticks)

pub overflow_add-made : goal.overflow_add-made
overflow_add-made c = omega (arith, fits (goal.at.overflow_add-made c).Joined-same, c.ranges.ticks)

pub overflow_add-made-in-loop-left : goal.overflow_add-made-in-loop-left
overflow_add-made-in-loop-left c = omega (arith, fits (goal.at.overflow_add-made-in-loop-left c).Joined-same, c.ranges.ticks)

pub loop-left-preserved : goal.loop-left-preserved
loop-left-preserved c =
    let t = (goal.at.loop-left-preserved c).Joined-same in
    record {
      run = on t;
      mode = same_mode t;
      spare = c.run_for-stores.ensures.spare ∙ c.loop-left.invariant.spare;
      plain = λ h. c.run_for-stores.ensures.plain (c.loop-left.invariant.plain h);
    }

pub returns-clause-board : goal.returns-clause-board
returns-clause-board c =
    let b = board_of c.args.self.now in
    let none : c.loop-left.left ≡ 0 = omega (arith, c.loop-left-test.false) in
    ap scanned (over_scan (plan_of b.registers) board_effects c.args.ticks c.loop-left.left c.loop-left.made _ _ c.loop-left.invariant.run (inl none))
    ∙ sym (ap scanned (bare_advanced c.args.ticks b c.requires))

pub returns-clause-stores : goal.returns-clause-stores
returns-clause-stores c =
    let b = board_of c.args.self.now in
    let none : c.loop-left.left ≡ 0 = omega (arith, c.loop-left-test.false) in
    over_stores (plan_of b.registers) board_effects c.args.ticks c.loop-left.left c.loop-left.made _ _ c.loop-left.invariant.run (inl none)
    ∙ sym (bare_stores c.args.ticks b c.requires)

pub returns-clause-spare : goal.returns-clause-spare
returns-clause-spare c = c.loop-left.invariant.spare

pub returns-clause-plain : goal.returns-clause-plain
returns-clause-plain c = c.loop-left.invariant.plain
