-- Small laws on tests.
use mathlib.Core.Bool.{Bool, cond}
use mathlib.Core.List.{List, [], ◌∷◌}
use mathlib.Core.Path.{◌≡◌, refl, sym, ap, ◌∙◌}
use Prim.Native.Nat.{ℕ, zero, suc, ◌<◌}
use native.Mathlib.Nat.{le_of_suc-le-suc}
use native.Mathlib.Omega.{arith}
use lib.ListN.{get_or}

-- the same in both branches
pub either_way : {A : Type 0} (t : Bool) (x : A) → cond t x x ≡ x
either_way t x = grind arith

-- ---- a rule about all numbers below n: one test that antt computes, and one law that makes it the rule at each number

-- the values at 0 to n - 1
abbrev pub values_below : {A : Type 0} → (f : ℕ → A) → ℕ → List A
values_below f zero = []
values_below f (suc n) = f 0 ∷ values_below (λ k. f (suc k)) n

value_at : {A : Type 0} (f : ℕ → A) (d : A) (n k : ℕ) → k < n → get_or (values_below f n) k d ≡ f k
value_at f d zero k h = absurd (omega arith)
value_at f d (suc n) zero h = refl
value_at f d (suc n) (suc k) h = value_at (λ i. f (suc i)) d n k (le_of_suc-le-suc h)

-- if antt computes both lists to the same, the functions agree at each number below n
pub same_below : {A : Type 0} (f g : ℕ → A) (n : ℕ) → values_below f n ≡ values_below g n → (k : ℕ) → k < n → f k ≡ g k
same_below {A} f g n same k h =
    sym (value_at f (f 0) n k h) ∙ ap (λ (values : List A). get_or values k (f 0)) same ∙ value_at g (f 0) n k h
