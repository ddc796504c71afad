-- What is due at a tick of a running cycle, and where its conversions go.
use mathlib.Core.Bool.{Bool, true, false, not, cond, ◌&&◌}
use mathlib.Core.List.{List}
use mathlib.Core.Logic.{◌⊎◌, inl, inr}
use mathlib.Core.Path.{◌≡◌, refl, sym, ap, ◌∙◌}
use Prim.Native.Nat.{ℕ, suc, ◌+◌, ◌/◌, ◌%◌, ◌≤◌, ◌<◌}
use native.Mathlib.Omega.{arith}
use Rattle.std.specs.Prelude.{Some, None}
use Rattle.schedule.proofs.Places.{same_pass, next_pass}
use Rattle.schedule.proofs.Schedule as laws
use Rattle.pmc330_model.specs.Schedule.{pass_length, is_single, is_timed, is_differential, in_odd_pass, slot_of, ends_pass, begins_at, is_scheduled}
use Rattle.pmc330_model.specs.Plan.{plan_of}
use Rattle.pmc330_model.specs.Logbook.{CycleSince, idle, since, due_after}
use Rattle.pmc330_model.specs.declared.Registers.{Registers}
use Rattle.pmc330_model.proofs.Agreement.{Startable}
use Rattle.pmc330_model.proofs.Schedule.{odd_next, begins_is, scheduled_is, due_is, apart_is}

module _ (r : Registers) (startable : Startable r) where
  pub slot_below : (k : ℕ) → slot_of r k < 32
  slot_below k = grind arith

  -- the conversion at some tick is the only one
  module _ (timed : is_timed r ≡ true) (T delay tick : ℕ) (triggers : List ℕ) where
    pub due_found : (k : ℕ) → is_scheduled r k ≡ true → T + begins_at r k + delay ≡ tick → due_after delay r tick (since T triggers) ≡ Some k
    due_found k scheduled at =
        due_is r timed delay T tick triggers
        ∙ laws.due_found (plan_of r) (apart_is r timed startable) T delay tick k (sym (scheduled_is r timed k) ∙ scheduled)
        (ap (λ (n : ℕ). T + n + delay) (sym (begins_is r timed k)) ∙ at)

    pub due_none : ((i : ℕ) → is_scheduled r i ≡ true → T + begins_at r i + delay ≡ tick → ⊥) → due_after delay r tick (since T triggers) ≡ None
    due_none fails =
        due_is r timed delay T tick triggers
        ∙ laws.due_none (plan_of r) (apart_is r timed startable) T delay tick
        (λ i scheduled at. fails i (scheduled_is r timed i ∙ scheduled) (ap (λ (n : ℕ). T + n + delay) (begins_is r timed i) ∙ at))

-- a mode that is not timed has no conversion in time
pub untimed_due : (delay : ℕ) (r : Registers) (tick : ℕ) (cycle : CycleSince) → is_timed r ≡ false → due_after delay r tick cycle ≡ None
unfolding due_after
untimed_due delay r tick idle untimed = refl
untimed_due delay r tick (since T triggers) untimed = laws.search_none _ (suc tick) 0 (λ j low. rw untimed)

-- the schedule of a mode in time goes on until a single pass ends
module _ (r : Registers) (timed : is_timed r ≡ true) where
  pub unscheduled_later : (k i : ℕ) → is_scheduled r k ≡ false → k ≤ i → is_scheduled r i ≡ false
  unscheduled_later k i off h = scheduled_is r timed i ∙ laws.unscheduled_later (plan_of r) k i (sym (scheduled_is r timed k) ∙ off) h

  pub scheduled_next : (k : ℕ) → is_scheduled r k ≡ true → is_scheduled r (suc k) ≡ not (is_single r && ends_pass r k)
  scheduled_next k on = scheduled_is r timed (suc k) ∙ laws.scheduled_next (plan_of r) k (sym (scheduled_is r timed k) ∙ on)

-- the parity of the pass goes from a conversion to the next, if differential
pub parity_next :
    (r : Registers) (k : ℕ) (odd : Bool) → odd ≡ (is_differential r && in_odd_pass r k)
    → cond (is_differential r && ends_pass r k) (not odd) odd ≡ (is_differential r && in_odd_pass r (suc k))
parity_next r k odd e = go (is_differential r) (laws.inside_or_ends (plan_of r) k) e
  where
    go :
        (d : Bool) → (suc (k % pass_length r) ≡ pass_length r) ⊎ (suc (k % pass_length r) < pass_length r) → odd ≡ (d && in_odd_pass r k)
        → cond (d && ends_pass r k) (not odd) odd ≡ (d && in_odd_pass r (suc k))
    go true (inl h) o = rw (laws.ends_is (plan_of r) k h, next_pass k (pass_length r) h) (ap not o ∙ sym (odd_next (k / pass_length r)))
    go true (inr h) o = rw (laws.inside_is (plan_of r) k h, same_pass k (pass_length r) h) o
    go false h o = o
