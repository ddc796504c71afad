-- In a mode in time the schedule's formulas are those of the registers' plan, and so its laws are those of every plan.
use mathlib.Core.Bool.{Bool, true, false, not, cond, ◌&&◌, ◌||◌}
use mathlib.Core.Path.{◌≡◌, refl, sym, ap, ◌∙◌}
use Prim.Native.Nat.{ℕ, zero, suc, ◌+◌, ◌-◌, ◌*◌, ◌/◌, ◌%◌, ◌≤◌, ◌<◌}
use native.Mathlib.Nat.{add-mul, mul_assoc, div-add-mod', one-mul, add-zero}
use native.Mathlib.Omega.{arith}
use mathlib.Core.List.{List}
use lib.Dec.{eqb}
use Rattle.schedule.specs.Schedule.{begins, IsApart, first_from, due_at}
use Rattle.schedule.specs.Schedule as plan
use Rattle.schedule.proofs.Schedule as laws
use Rattle.pmc330_model.specs.Schedule.{pass_length, interval, is_uniform, is_burst, is_timed, burst_delay, begins_at, is_scheduled}
use Rattle.pmc330_model.specs.Plan.{plan_of}
use Rattle.pmc330_model.specs.Logbook.{since, due_after}
use Rattle.pmc330_model.specs.declared.Registers.{Registers}
use Rattle.pmc330_model.proofs.Agreement.{Startable}

-- parity turns with each pass
pub odd_next : (n : ℕ) → eqb (suc n % 2) 1 ≡ not (eqb (n % 2) 1)
odd_next n = grind arith

-- tests that agree find the same
search_same : (f g : ℕ → Bool) → ((i : ℕ) → f i ≡ g i) → (n k : ℕ) → first_from f n k ≡ first_from g n k
unfolding first_from
search_same f g same zero k = refl
search_same f g same (suc n) k = rw (same k, search_same f g same n (suc k)) refl

module _ (r : Registers) (timed : is_timed r ≡ true) where
  uniform_begins : (k I : ℕ) → (k + 1) * I ≡ I + k / pass_length r * ((r.end - r.start) * I + (I + 0)) + k % pass_length r * I
  uniform_begins k I =
      let whole : pass_length r * I ≡ (r.end - r.start) * I + (I + 0) = add-mul (r.end - r.start) 1 I ∙ ap (λ (n : ℕ). (r.end - r.start) * I + n) (one-mul I ∙ sym (add-zero I)) in
      let parts : k * I ≡ k / pass_length r * (pass_length r * I) + k % pass_length r * I =
      sym (ap (λ (n : ℕ). n * I) (div-add-mod' k (pass_length r)))
      ∙ add-mul (k / pass_length r * pass_length r) (k % pass_length r) I
      ∙ ap (λ (n : ℕ). n + k % pass_length r * I) (mul_assoc (k / pass_length r) (pass_length r) I) in
      rw (← whole, add-mul k 1 I) (omega arith)

  burst_begins : (k D : ℕ) → k / pass_length r * (120 * pass_length r + D) + 120 * (k % pass_length r) ≡ 0 + k / pass_length r * ((r.end - r.start) * 120 + (120 + D)) + k % pass_length r * 120
  burst_begins k D =
      let whole : 120 * pass_length r + D ≡ (r.end - r.start) * 120 + (120 + D) = omega arith in
      rw whole (omega arith)

  pub begins_is : (k : ℕ) → begins_at r k ≡ begins (plan_of r) k
  unfolding begins_at begins
  begins_is k = go (is_uniform r) (is_burst r) timed undelayed
    where
      undelayed : is_uniform r ≡ true → burst_delay r ≡ 0
      undelayed u = grind arith

      go : (u b : Bool) → (u || b) ≡ true → (u ≡ true → burst_delay r ≡ 0)
          → cond u ((k + 1) * interval r) (k / pass_length r * (120 * pass_length r + burst_delay r) + 120 * (k % pass_length r))
          ≡ cond u (interval r) 0 + k / pass_length r * ((r.end - r.start) * cond u (interval r) (cond b 120 0) + (cond u (interval r) (cond b 120 0) + burst_delay r)) + k % pass_length r * cond u (interval r) (cond b 120 0)
      go true b t none = rw (none refl) (uniform_begins k (interval r))
      go false true t none = burst_begins k (burst_delay r)
      go false false t none = cc

  pub scheduled_is : (k : ℕ) → is_scheduled r k ≡ plan.is_scheduled (plan_of r) k
  scheduled_is k = rw timed

  pub due_is : (delay T tick : ℕ) (triggers : List ℕ) → due_after delay r tick (since T triggers) ≡ due_at (plan_of r) delay T tick
  unfolding due_after due_at
  due_is delay T tick triggers = search_same _ _ same (suc tick) 0
    where
      same : (k : ℕ) → (is_scheduled r k && eqb (T + begins_at r k + delay) tick) ≡ (plan.is_scheduled (plan_of r) k && eqb (T + begins (plan_of r) k + delay) tick)
      same k = rw (scheduled_is k, begins_is k) refl

  module _ (startable : Startable r) where
    pub apart_is : IsApart (plan_of r)
    apart_is = grind (arith, timed, startable.slow)

    -- a beginning is at least 64 ticks after every one before
    pub before : (i j : ℕ) → i < j → begins_at r i + 64 ≤ begins_at r j
    before i j h = rw (begins_is i, begins_is j) (laws.before (plan_of r) apart_is i j h)
