-- What the operations on fractions come to, where a top is a difference of two naturals.
use mathlib.Core.Path.{◌≡◌, refl}
use mathlib.Core.HLevel.{is_prop→PathP}
use Prim.Native.Nat.{ℕ, zero, suc, ◌+◌, ◌-◌, ◌*◌, ◌/◌, ◌<◌, min}
use native.Mathlib.Bridge.{le_prop}
use native.Mathlib.Nat.{one-mul, zero-lt-suc, sub-pos_iff_lt, le_of_lt}
use native.Mathlib.Omega.{arith}
use lib.IntN.{ℤ, pos, sub_ℕ, ◌-ℤ◌}
use Rattle.analog.specs.Code.{limited}
use Rattle.analog.specs.Fractions.{fraction, natural, inverse, ◌/ℚ◌, rounded_down, nearest}
use Rattle.analog.proofs.Integers.{exact, plus, times, times_one}

-- a fraction is its top and its bottom, however the bottom was shown to be positive
pub same : {t u : ℤ} {b c : ℕ} {p : 0 < b} {q : 0 < c} → t ≡ u → b ≡ c → fraction t b p ≡ fraction u c q
same {p} {q} e f = λ i. fraction (e i) (f i) (is_prop→PathP (λ j. 0 < f j) (λ j. le_prop) p q i)

inverse_is : {n : ℕ} (some : 0 < n) (b : ℕ) (p : 0 < b) → inverse (fraction (pos n) b p) ≡ fraction (pos b) n some
inverse_is {n = zero} some b p = absurd (omega arith)
inverse_is {n = suc n} some b p = same refl refl

-- a whole number divided by a positive one
pub whole_over : {n : ℕ} (some : 0 < n) (t : ℤ) (p : 0 < 1) → fraction t 1 p /ℚ natural n ≡ fraction t n some
whole_over {n} some t p = rw (inverse_is some 1 (zero-lt-suc 0)) (same (times_one t) (one-mul n))

-- 1 over a positive difference
pub one_over : {a b : ℕ} (less : b < a) (c : ℕ) (p : 0 < c) → inverse (fraction (pos a -ℤ pos b) c p) ≡ fraction (pos c) (a - b) (sub-pos_iff_lt.1 less)
one_over {a} {b} less c p = rw (exact a b (le_of_lt less)) (inverse_is _ c p)

-- rounded down and limited; where the difference is negative, the natural one is 0 and so is the result
pub limited_down : (a b c : ℕ) (p : 0 < c) → limited (rounded_down (fraction (sub_ℕ a b) c p)) ≡ min ((a - b) / c) 65535
limited_down a b c p = grind arith

-- to the nearest and limited: with half the bottom more
pub limited_nearest : (a b c : ℕ) (p : 0 < c) → limited (nearest (fraction (sub_ℕ a b) c p)) ≡ min ((a * 2 + c - b * 2) / (c * 2)) 65535
limited_nearest a b c p = simp (times, one-mul c, plus) (limited_down (a * 2 + c) (b * 2) (c * 2) _)
