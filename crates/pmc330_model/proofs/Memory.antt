-- Each event changes what the mailboxes, the counts and pending are just as the board's own step does.
use mathlib.Core.Bool.{Bool, true, false, cond, ◌||◌}
use mathlib.Core.List.{List, ◌∷◌}
use mathlib.Core.Logic.{⊎_elim}
use mathlib.Core.Path.{◌≡◌, refl, sym, ap, ◌∙◌}
use Prim.Native.Nat.{ℕ, zero, suc, ◌+◌, ◌≤◌, ◌<◌, min}
use native.Mathlib.Omega.{arith}
use lib.Dec.{eqb}
use lib.ListN.{get_or, set, length, replicate, length-set}
use lib.Seq.{get_or-set_same, get_or-set_other, set_out}
use borrow.Author.Tests.{eq-eqb, ne_eqb}
use Rattle.std.proofs.lemmas.Bool.{cases_lt, cases_eq}
use Rattle.pmc330_model.specs.Logbook.{Store, Event, was_reset, cycle_start, release, was_read, store, last_store, stores_since, interrupted}
use Rattle.pmc330_model.proofs.Agreement.{Memory}

-- a list's element after a store in it
set_at : (l : List ℕ) (i a j : ℕ) → length l ≡ 32 → j < 32 → get_or (set l i a) j 0 ≡ cond (eqb i j) a (get_or l j 0)
set_at l i a j long h =
    ⊎_elim
    (λ (e : i ≡ j). rw (e, eq-eqb j j refl) (get_or-set_same l j a 0 (omega arith)))
    (λ (d : i ≡ j → ⊥). rw (ne_eqb i j d) (get_or-set_other l i j a 0 (λ e. d (sym e))))
    (cases_eq i j)

-- an element below a bound, whichever it is
set_below : (l : List ℕ) (i a n : ℕ) → a < n → ((j : ℕ) → get_or l j 0 < n) → (j : ℕ) → get_or (set l i a) j 0 < n
set_below l i a n small all j =
    ⊎_elim
    (λ (e : i ≡ j).
    ⊎_elim
    (λ (inside : j < length l). rw (e, get_or-set_same l j a 0 inside) small)
    (λ (out : length l ≤ j). rw (e, set_out l j a out) (all j))
    (cases_lt j (length l)))
    (λ (d : i ≡ j → ⊥). rw (get_or-set_other l i j a 0 (λ e. d (sym e))) (all j))
    (cases_eq i j)

zeros_at : (n j : ℕ) → ◌≡◌ {A = ℕ} (get_or (replicate n 0) j 0) 0
zeros_at zero j = refl
zeros_at (suc n) zero = refl
zeros_at (suc n) (suc j) = zeros_at n j

or_turned : (a b : Bool) → (a || b) ≡ (b || a)
or_turned a b = grind arith

more : (t : Bool) (x y : ℕ) → x ≡ min 2 y → cond t (min 2 (x + 1)) x ≡ min 2 (cond t 1 0 + y)
more t x y e = grind arith

module _ (events : List Event) (codes unread : List ℕ) (pending : Bool) (h : Memory events codes unread pending) where
  -- the slot's own count is the one that a store counts on
  own : (s j n : ℕ) → cond (eqb s j) (min 2 (get_or unread s 0 + 1)) n ≡ cond (eqb s j) (min 2 (get_or unread j 0 + 1)) n
  own s j n = grind arith

  pub memory_store :
      (s : Store) → s.code < 65536
      → Memory (store s ∷ events) (set codes s.slot s.code) (set unread s.slot (min 2 (get_or unread s.slot 0 + 1)))
      (pending || s.interrupts)
  unfolding last_store stores_since interrupted
  memory_store s small =
      let slot : ℕ = s.slot in
      record {
        codes_long = length-set codes slot s.code ∙ h.codes_long;
        unread_long = length-set unread slot (min 2 (get_or unread slot 0 + 1)) ∙ h.unread_long;
        small = set_below codes slot s.code 65536 small h.small;
        code = λ j below. set_at codes slot s.code j h.codes_long below ∙ ap (cond (eqb slot j) s.code) (h.code j below);
        count =
            λ j below.
            set_at unread slot (min 2 (get_or unread slot 0 + 1)) j h.unread_long below
            ∙ own slot j (get_or unread j 0)
            ∙ more (eqb slot j) (get_or unread j 0) (stores_since j events) (h.count j below);
        interrupt = ap (λ (t : Bool). t || s.interrupts) h.interrupt ∙ or_turned (interrupted events) s.interrupts;
      }

  pub memory_read : (s : ℕ) → Memory (was_read s ∷ events) codes (set unread s 0) pending
  unfolding last_store stores_since interrupted
  memory_read s =
      record {
        codes_long = h.codes_long;
        unread_long = length-set unread s 0 ∙ h.unread_long;
        small = h.small;
        code = h.code;
        count =
            λ j below.
            set_at unread s 0 j h.unread_long below
            ∙ ap (cond (eqb s j) 0) (h.count j below)
            ∙ cleared (eqb s j) (stores_since j events);
        interrupt = h.interrupt;
      }
    where
      cleared : (t : Bool) (n : ℕ) → cond t 0 (min 2 n) ≡ min 2 (cond t 0 n)
      cleared true n = refl
      cleared false n = refl

  pub memory_start : Memory (cycle_start ∷ events) codes (replicate 32 0) pending
  unfolding last_store stores_since interrupted
  memory_start =
      record {
        codes_long = h.codes_long;
        unread_long = refl;
        small = h.small;
        code = h.code;
        count = λ j below. zeros_at 32 j;
        interrupt = h.interrupt;
      }

  pub memory_release : Memory (release ∷ events) codes unread false
  unfolding last_store stores_since interrupted
  memory_release = grind arith

pub memory_reset : (events : List Event) → Memory (was_reset ∷ events) (replicate 32 0) (replicate 32 0) false
unfolding last_store stores_since interrupted
memory_reset events =
    record {
      codes_long = refl;
      unread_long = refl;
      small = λ j. rw (zeros_at 32 j) (omega arith);
      code = λ j below. zeros_at 32 j;
      count = λ j below. zeros_at 32 j;
      interrupt = refl;
    }
