-- The schedule's laws: the step from a conversion to the next, the gap between two, and what the search finds.
use mathlib.Core.Bool.{Bool, true, false, not, cond, ◌&&◌, ◌||◌}
use mathlib.Core.Logic.{◌⊎◌, inl, inr, ⊎_elim}
use mathlib.Core.Path.{◌≡◌, refl, sym, ap, ◌∙◌}
use Prim.Native.Nat.{ℕ, zero, suc, ◌+◌, ◌-◌, ◌*◌, ◌/◌, ◌%◌, ◌≤◌, ◌<◌}
use native.Mathlib.Nat.{eq-or-lt_of_le, mod-lt, mod-eq_of_lt, add-zero, zero-add, suc-add, add-suc, suc-mul, zero-mul, zero-div, zero-mod}
use native.Mathlib.Omega.{arith}
use lib.Dec.{eqb, ltb}
use borrow.Author.Tests.{eq-eqb, ne_eqb, lt-ltb, le-ltb, ltb-true}
use Rattle.std.specs.Prelude.{Some, None}
use Rattle.std.proofs.lemmas.Bool.{cases_Bool, and_right}
use Rattle.schedule.specs.Schedule.{length_of, period, begins, ends_pass, is_scheduled, IsApart, first_from, due_at}
use Rattle.schedule.specs.declared.Plan.{Plan}
use Rattle.schedule.proofs.Places.{same_pass, next_place, next_pass, first_place}

module _ (p : Plan) where
  -- the two cases of a conversion's place
  pub inside_or_ends : (k : ℕ) → (suc (k % length_of p) ≡ length_of p) ⊎ (suc (k % length_of p) < length_of p)
  inside_or_ends k = eq-or-lt_of_le (mod-lt k (omega arith))

  pub ends_is : (k : ℕ) → suc (k % length_of p) ≡ length_of p → ends_pass p k ≡ true
  ends_is k e = grind arith

  pub inside_is : (k : ℕ) → suc (k % length_of p) < length_of p → ends_pass p k ≡ false
  inside_is k h = grind arith

  -- conversion 0
  pub begins_first : begins p 0 ≡ p.first
  unfolding begins
  begins_first = rw (zero-div (length_of p), zero-mod (length_of p), zero-mul (period p), zero-mul p.step) (omega arith)

  -- the ticks from conversion k to the next one
  abbrev pub step_after : (ends : Bool) → ℕ
  step_after ends = cond ends p.turn p.step

  pub step : (k : ℕ) → begins p (suc k) ≡ begins p k + step_after (ends_pass p k)
  unfolding begins
  step k = go (inside_or_ends k)
    where
      go : (suc (k % length_of p) ≡ length_of p) ⊎ (suc (k % length_of p) < length_of p)
          → p.first + suc k / length_of p * period p + suc k % length_of p * p.step
          ≡ p.first + k / length_of p * period p + k % length_of p * p.step + cond (ends_pass p k) p.turn p.step
      go (inl e) =
          let place : k % length_of p ≡ p.last = omega arith in
          rw (ends_is k e, next_pass k (length_of p) e, first_place k (length_of p) e, suc-mul (k / length_of p) (period p), place) (omega arith)
      go (inr h) =
          rw (inside_is k h, same_pass k (length_of p) h, next_place k (length_of p) h, suc-mul (k % length_of p) p.step) (omega arith)

  module _ (apart : IsApart p) where
    pub step_long : (ends : Bool) → p.delay ≤ step_after ends
    step_long true = apart.turn
    step_long false = apart.step

    pub next_begins : (k : ℕ) → begins p k + p.delay ≤ begins p (suc k)
    next_begins k = rw (step k) (omega (arith, step_long (ends_pass p k)))

    ordered : (i d : ℕ) → begins p i + p.delay ≤ begins p (suc (i + d))
    ordered i zero = rw (add-zero i) (next_begins i)
    ordered i (suc d) = rw (add-suc i d) (omega (arith, ordered i d, next_begins (suc (i + d))))

    pub before : (i j : ℕ) → i < j → begins p i + p.delay ≤ begins p j
    before i j h =
        let e : j ≡ suc (i + (j - suc i)) = omega arith in
        rw e (ordered i (j - suc i))

    -- conversion k begins at its number of ticks or later
    pub late : (k : ℕ) → k ≤ begins p k
    late zero = omega arith
    late (suc k) = omega (arith, late k, next_begins k, apart.some)

  -- ---- a schedule goes on until a single pass ends

  pub scheduled_first : is_scheduled p 0 ≡ true
  scheduled_first = rw (lt-ltb 0 (length_of p) (omega arith)) (or_true (not p.single))
    where
      or_true : (b : Bool) → (b || true) ≡ true
      or_true true = refl
      or_true false = refl

  pub unscheduled_later : (k i : ℕ) → is_scheduled p k ≡ false → k ≤ i → is_scheduled p i ≡ false
  unscheduled_later k i off h = grind arith

  pub scheduled_next : (k : ℕ) → is_scheduled p k ≡ true → is_scheduled p (suc k) ≡ not (p.single && ends_pass p k)
  scheduled_next k on = go p.single on
    where
      single : k < length_of p → (suc (k % length_of p) ≡ length_of p) ⊎ (suc (k % length_of p) < length_of p) → ltb (suc k) (length_of p) ≡ not (ends_pass p k)
      single h (inl e) = le-ltb (suc k) (length_of p) (omega (arith, mod-eq_of_lt h)) ∙ sym (ap not (ends_is k e))
      single h (inr i) = lt-ltb (suc k) (length_of p) (omega (arith, mod-eq_of_lt h)) ∙ sym (ap not (inside_is k i))

      go : (s : Bool) → (not s || ltb k (length_of p)) ≡ true → (not s || ltb (suc k) (length_of p)) ≡ not (s && ends_pass p k)
      go true e = single (ltb-true k (length_of p) e) (inside_or_ends k)
      go false e = refl

-- ---- the search

module _ (test : ℕ → Bool) where
  pub search_none : (n k : ℕ) → ((j : ℕ) → k ≤ j → test j ≡ false) → first_from test n k ≡ None
  unfolding first_from
  search_none zero k fail = refl
  search_none (suc n) k fail = rw (fail k (omega arith)) (search_none n (suc k) (λ j low. fail j (omega arith)))

  search_at : (n k i : ℕ) → i < n → test (k + i) ≡ true → ((j : ℕ) → k ≤ j → j < k + i → test j ≡ false) → first_from test n k ≡ Some (k + i)
  unfolding first_from
  search_at zero k i room hit fail = absurd (omega arith)
  search_at (suc n) k zero room hit fail = rw (add-zero k, rw (add-zero k) at hit) refl
  search_at (suc n) k (suc i) room hit fail =
      rw (fail k (omega arith) (omega arith), add-suc k i, ← suc-add k i)
      (search_at n (suc k) i (omega arith) (rw (add-suc k i, ← suc-add k i) at hit) (λ j low high. fail j (omega arith) (omega arith)))

module _ (p : Plan) (apart : IsApart p) (start delay tick : ℕ) where
  abbrev is_due : ℕ → Bool
  is_due k = is_scheduled p k && eqb (start + begins p k + delay) tick

  pub due_found : (k : ℕ) → is_scheduled p k ≡ true → start + begins p k + delay ≡ tick → due_at p delay start tick ≡ Some k
  unfolding due_at
  due_found k scheduled at =
      search_at is_due (suc tick) 0 k (omega (arith, late p apart k)) (rw (zero-add k) hit) earlier ∙ ap Some (zero-add k)
    where
      hit : is_due k ≡ true
      hit = rw (scheduled, eq-eqb (start + begins p k + delay) tick at)

      earlier : (j : ℕ) → 0 ≤ j → j < 0 + k → is_due j ≡ false
      earlier j low high =
          let sooner : j < k = omega arith in
          rw (ne_eqb (start + begins p j + delay) tick (λ e. omega (arith, before p apart j k sooner, apart.some))) (and_right (is_scheduled p j) false refl)

  pub due_none : ((i : ℕ) → is_scheduled p i ≡ true → start + begins p i + delay ≡ tick → ⊥) → due_at p delay start tick ≡ None
  unfolding due_at
  due_none fails = search_none is_due (suc tick) 0 (λ j low. miss j)
    where
      miss : (j : ℕ) → is_due j ≡ false
      miss j =
          ⊎_elim
          (λ (e : is_scheduled p j ≡ true). rw (e, ne_eqb (start + begins p j + delay) tick (fails j e)))
          (λ (e : is_scheduled p j ≡ false). rw e)
          (cases_Bool (is_scheduled p j))
