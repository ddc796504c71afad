-- Each turn stores one more gain; a group past the last one has none.
use mathlib.Core.Path.{◌≡◌, ap₂, sym, ◌∙◌}
use Prim.Native.Nat.{ℕ, ◌+◌, ◌*◌}
use native.Mathlib.Omega.{arith}
use borrow.Rule.Slice.PartMut.{mid_len}
use Rattle.pmc330_model.specs.Words.{gains_from}
use Rattle.pmc330.proofs.WordLaws.{storing_start, storing_turn, stored_past}
use Rattle.pmc330.proofs.words.gains_from.Goals as goal

pub returns-then-first-ge32 : goal.returns-then-first-ge32
returns-then-first-ge32 c = sym (stored_past _ _ 8 c.args.gains.now (omega arith))

pub loop-gain-init : goal.loop-gain-init
loop-gain-init c = storing_start _ _ _ _

pub loop-gain-preserved : goal.loop-gain-preserved
loop-gain-preserved c = storing_turn _ _ _ _ _ _ _ (omega arith) (omega arith) c.loop-gain.invariant

pub returns : goal.returns
returns c =
    let first : ℕ = 8 * c.from-first.result in
    let eight = mid_len first (first + 8) c.args.gains.now (omega arith) in
    let last : c.loop-gain.gain-index ≡ 8 = omega (arith, eight) in
    c.loop-gain.invariant.stored
    ∙ ap₂ (λ (group n : ℕ). gains_from (8 * group) c.args.word n c.args.gains.now) c.from-first.ensures last
