-- A run from event to event.
use mathlib.Core.Bool.{true, false, cond}
use mathlib.Core.Logic.{◌⊎◌, inl, inr}
use mathlib.Core.Path.{◌≡◌, sym, ap, ◌∙◌}
use Prim.Native.Nat.{ℕ, ◌+◌, ◌-◌, ◌≤◌, ◌<◌}
use native.Mathlib.Omega.{arith}
use lib.Dec.{eqb}
use Rattle.schedule.specs.Timer.{step_to}
use Rattle.schedule.specs.Scan.{Effects, Scan, jumped, advanced, stores_in}
use Rattle.schedule.specs.declared.Plan.{Plan}
use Rattle.schedule.proofs.Jumps.{Within, jump, jump_stores, idle_stays, idle_stores, advanced_add, stores_add, stores_most}

-- where a run of `ticks` from a scan stands, with `left` to go
pub record Partway {B : Type 0} (p : Plan) (e : Effects B) (ticks left made : ℕ) (start now : Scan B) : Type 0 where
  pub most : left ≤ ticks
  pub scan : advanced p e left now ≡ advanced p e ticks start
  pub count : made + stores_in p e left now ≡ stores_in p e ticks start

module _ {B : Type 0} (p : Plan) (e : Effects B) (ticks left made n more : ℕ) (start now next : Scan B) (partway : Partway p e ticks left made start now)
    (room : n ≤ left) (is : next ≡ advanced p e n now) (made-is : more ≡ stores_in p e n now) where
  parts : n + (left - n) ≡ left
  parts = omega (arith, room)

  split : stores_in p e left now ≡ more + stores_in p e (left - n) next
  split = rw (is, made-is) (sym (stores_add p e n (left - n) now ∙ ap (λ (k : ℕ). stores_in p e k now) parts))

  pub part_fits : made + more ≤ ticks
  part_fits = omega (arith, partway.count, split, stores_most p e ticks start)

  pub part_on : Partway p e ticks (left - n) (made + more) start next
  part_on =
      record {
        most = omega (arith, partway.most);
        scan = ap (advanced p e (left - n)) is ∙ advanced_add p e n (left - n) now ∙ ap (λ (k : ℕ). advanced p e k now) parts ∙ partway.scan;
        count = omega (arith, partway.count, split);
      }

step_within : (count left : ℕ) → Within (step_to count left) count
step_within count left = grind arith

module _ (lead lag left : ℕ) (some : 0 < left) where
  pub nearest_some : 0 < step_to lead (step_to lag left)
  nearest_some = grind arith

  pub nearest_most : step_to lead (step_to lag left) ≤ left
  nearest_most = grind arith

  pub nearest_lead : Within (step_to lead (step_to lag left)) lead
  nearest_lead = step_within lead (step_to lag left)

  pub nearest_lag : Within (step_to lead (step_to lag left)) lag
  nearest_lag = grind arith

-- one turn of the loop: a jump to the next event
module _ {B : Type 0} (p : Plan) (e : Effects B) (ticks left made : ℕ) (start now : Scan B) (partway : Partway p e ticks left made start now)
    (some : 0 < left) (running : now.timer.running ≡ true) (n more : ℕ)
    (n-is : n ≡ step_to now.timer.lead (step_to now.timer.lag left)) (more-is : more ≡ cond (eqb now.timer.lag n) 1 0) where
  n_some : 0 < n
  n_some = rw n-is (nearest_some now.timer.lead now.timer.lag left some)

  n_most : n ≤ left
  n_most = rw n-is (nearest_most now.timer.lead now.timer.lag left some)

  n_lead : Within n now.timer.lead
  n_lead = rw n-is (nearest_lead now.timer.lead now.timer.lag left some)

  n_lag : Within n now.timer.lag
  n_lag = rw n-is (nearest_lag now.timer.lead now.timer.lag left some)

  stores_is : more ≡ stores_in p e n now
  stores_is = more-is ∙ sym (jump_stores p e n now running n_some n_lead n_lag)

  pub turn_fits : made + more ≤ ticks
  turn_fits = part_fits p e ticks left made n more start now (jumped p e n now) partway n_most (sym (jump p e n now running n_some n_lead n_lag)) stores_is

  pub turn_on : (next : Scan B) → next ≡ jumped p e n now → Partway p e ticks (left - n) (made + more) start next
  turn_on next is =
      part_on p e ticks left made n more start now next partway n_most (is ∙ sym (jump p e n now running n_some n_lead n_lag)) stores_is

-- a run that is over, since no tick is left or the scan has ended
module _ {B : Type 0} (p : Plan) (e : Effects B) (ticks left made : ℕ) (start now : Scan B) (partway : Partway p e ticks left made start now) where
  pub over_scan : (left ≡ 0) ⊎ (now.timer.running ≡ false) → now ≡ advanced p e ticks start
  unfolding advanced
  over_scan (inl none) = ap (λ (n : ℕ). advanced p e n now) (sym none) ∙ partway.scan
  over_scan (inr stopped) = sym (idle_stays p e left now stopped) ∙ partway.scan

  pub over_stores : (left ≡ 0) ⊎ (now.timer.running ≡ false) → made ≡ stores_in p e ticks start
  unfolding stores_in
  over_stores (inl none) = omega (arith, partway.count, ap (λ (n : ℕ). stores_in p e n now) none)
  over_stores (inr stopped) = omega (arith, partway.count, idle_stores p e left now stopped)
