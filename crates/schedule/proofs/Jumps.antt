-- Many ticks at once, on any board: laws over what a beginning and a store do.
use mathlib.Core.Bool.{Bool, true, false, cond, ◌&&◌}
use mathlib.Core.Logic.{◌⊎◌}
use mathlib.Core.Path.{◌≡◌, refl, ap, ap₂, ◌∙◌}
use Prim.Native.Nat.{ℕ, zero, suc, ◌+◌, ◌-◌, ◌≤◌, ◌<◌}
use native.Mathlib.Nat.{add-zero, zero-add}
use native.Mathlib.Omega.{arith}
use lib.Dec.{eqb}
use Rattle.schedule.specs.Timer.{elapsed_by}
use Rattle.schedule.specs.Scan.{Effects, Scan, scan, elapsed, store_if, begin_if, jumped, is_store_due, ticked, advanced, stores_in}
use Rattle.schedule.specs.declared.Plan.{Plan}
use Rattle.schedule.specs.declared.Timer.{Timer}

-- n ticks reach at most the end of a countdown, if one runs
abbrev pub Within : (n count : ℕ) → Type 0
Within n count = (count ≡ 0) ⊎ (n ≤ count)

-- one tick, then n
elapsed_more : (n : ℕ) (t : Timer) → elapsed_by n (elapsed_by 1 t) ≡ elapsed_by (suc n) t
elapsed_more n t = grind arith

ends_later : (n count : ℕ) → eqb (count - 1) (suc n) ≡ eqb count (suc (suc n))
ends_later n count = grind arith

within_next : (n count : ℕ) → Within (suc (suc n)) count → Within (suc n) (count - 1)
within_next n count h = grind arith

not_due : (n count : ℕ) → Within (suc (suc n)) count → eqb count 1 ≡ false
not_due n count h = grind arith

module _ {B : Type 0} (p : Plan) (e : Effects B) where
  pub ticked_is : (s : Scan B) → s.timer.running ≡ true → ticked p e s ≡ jumped p e 1 s
  unfolding ticked
  ticked_is s running = grind arith

  -- a tick in which nothing is due
  tick_quiet : (s : Scan B) → s.timer.running ≡ true → eqb s.timer.lead 1 ≡ false → eqb s.timer.lag 1 ≡ false → ticked p e s ≡ elapsed 1 s
  unfolding ticked
  tick_quiet s running lead lag = grind arith

  pub jump : (n : ℕ) (s : Scan B) → s.timer.running ≡ true → 0 < n → Within n s.timer.lead → Within n s.timer.lag → advanced p e n s ≡ jumped p e n s
  unfolding advanced
  jump zero s running some lead lag = absurd (omega arith)
  jump (suc zero) s running some lead lag = ticked_is s running
  jump (suc (suc n)) s running some lead lag =
      ap (advanced p e (suc n)) (tick_quiet s running (not_due n s.timer.lead lead) (not_due n s.timer.lag lag))
      ∙ jump (suc n) (elapsed 1 s) running (omega arith) (within_next n s.timer.lead lead) (within_next n s.timer.lag lag)
      ∙ ap (λ (t : Timer). begin_if p e (eqb (s.timer.lead - 1) (suc n)) (store_if p e (eqb (s.timer.lag - 1) (suc n)) (scan t s.board)))
      (elapsed_more (suc n) s.timer)
      ∙ ap₂ (λ (beginning due : Bool). begin_if p e beginning (store_if p e due (elapsed (suc (suc n)) s)))
      (ends_later n s.timer.lead)
      (ends_later n s.timer.lag)

  pub jump_stores : (n : ℕ) (s : Scan B) → s.timer.running ≡ true → 0 < n → Within n s.timer.lead → Within n s.timer.lag → stores_in p e n s ≡ cond (eqb s.timer.lag n) 1 0
  unfolding stores_in
  jump_stores zero s running some lead lag = absurd (omega arith)
  jump_stores (suc zero) s running some lead lag = rw running (add-zero _)
  jump_stores (suc (suc n)) s running some lead lag =
      ap₂ (λ (due : Bool) (next : Scan B). cond (s.timer.running && due) 1 0 + stores_in p e (suc n) next)
      (not_due n s.timer.lag lag)
      (tick_quiet s running (not_due n s.timer.lead lead) (not_due n s.timer.lag lag))
      ∙ rw running (zero-add _)
      ∙ jump_stores (suc n) (elapsed 1 s) running (omega arith) (within_next n s.timer.lead lead) (within_next n s.timer.lag lag)
      ∙ ap (λ (due : Bool). cond due 1 0) (ends_later n s.timer.lag)

  -- ---- an idle scan stays

  pub idle_tick : (s : Scan B) → s.timer.running ≡ false → ticked p e s ≡ s
  unfolding ticked
  idle_tick s stopped = grind arith

  pub idle_stays : (n : ℕ) (s : Scan B) → s.timer.running ≡ false → advanced p e n s ≡ s
  unfolding advanced
  idle_stays zero s stopped = refl
  idle_stays (suc n) s stopped = ap (advanced p e n) (idle_tick s stopped) ∙ idle_stays n s stopped

  pub idle_stores : (n : ℕ) (s : Scan B) → s.timer.running ≡ false → stores_in p e n s ≡ 0
  unfolding stores_in
  idle_stores zero s stopped = refl
  idle_stores (suc n) s stopped =
      ap₂ (λ (runs : Bool) (next : Scan B). cond (runs && eqb s.timer.lag 1) 1 0 + stores_in p e n next) stopped (idle_tick s stopped)
      ∙ zero-add _
      ∙ idle_stores n s stopped

  -- ---- parts of a run

  pub advanced_add : (n k : ℕ) (s : Scan B) → advanced p e k (advanced p e n s) ≡ advanced p e (n + k) s
  unfolding advanced
  advanced_add zero k s = rw (zero-add k) refl
  advanced_add (suc n) k s =
      let later : suc (n + k) ≡ suc n + k = omega arith in
      advanced_add n k (ticked p e s) ∙ ap (λ (i : ℕ). advanced p e i s) later

  pub stores_add : (n k : ℕ) (s : Scan B) → stores_in p e n s + stores_in p e k (advanced p e n s) ≡ stores_in p e (n + k) s
  unfolding advanced stores_in
  stores_add zero k s = rw (zero-add k) (zero-add _)
  stores_add (suc n) k s =
      let later : suc (n + k) ≡ suc n + k = omega arith in
      omega (arith, stores_add n k (ticked p e s), ap (λ (i : ℕ). stores_in p e i s) later)

  pub stores_most : (n : ℕ) (s : Scan B) → stores_in p e n s ≤ n
  unfolding stores_in
  stores_most zero s = omega arith
  stores_most (suc n) s = omega (arith, at_most_one (is_store_due s), stores_most n (ticked p e s))
    where
      at_most_one : (due : Bool) → cond due 1 0 ≤ 1
      at_most_one true = omega arith
      at_most_one false = omega arith
