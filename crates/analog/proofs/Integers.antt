-- The integers as differences of two naturals: every sum and product of the definitions is one such difference.
use mathlib.Core.Path.{◌≡◌, sym, ap, ◌∙◌}
use mathlib.Core.Logic.{⊎_elim}
use Prim.Native.Nat.{ℕ, suc, ◌+◌, ◌-◌, ◌*◌, ◌≤◌, ◌<◌}
use native.Mathlib.Nat.{mul_comm, mul-sub, mul-le-mul_right}
use native.Mathlib.Omega.{arith}
use lib.IntN.{ℤ, pos, negsuc, neg_ℤ, sub_ℕ, ◌+ℤ◌, ◌-ℤ◌, ◌*ℤ◌, *ℤ_comm}
use Rattle.std.proofs.lemmas.Bool.{cases_lt}
use borrow.Author.Tests.{lt-ltb, le-ltb}

pub sub_ge : (a b : ℕ) → b ≤ a → sub_ℕ a b ≡ pos (a - b)
sub_ge a b h = rw (le-ltb a b h)

pub sub_lt : (a b : ℕ) → a < b → sub_ℕ a b ≡ negsuc (b - suc a)
sub_lt a b h = rw (lt-ltb a b h)

pub minus : (a b : ℕ) → pos a -ℤ pos b ≡ sub_ℕ a b
minus a b = grind arith

-- a difference that is not negative
pub exact : (a b : ℕ) → b ≤ a → pos a -ℤ pos b ≡ pos (a - b)
exact a b h = minus a b ∙ sub_ge a b h

pub negation : (n : ℕ) → neg_ℤ (pos n) ≡ sub_ℕ 0 n
negation n = grind arith

-- the same amount more on both sides
pub shifted : (a b k : ℕ) → sub_ℕ (a + k) (b + k) ≡ sub_ℕ a b
shifted a b k = grind arith

pub plus : (a b n : ℕ) → sub_ℕ a b +ℤ pos n ≡ sub_ℕ (a + n) b
plus a b n = grind arith

difference_times : (a b k : ℕ) → (a - b) * k ≡ a * k - b * k
difference_times a b k = mul_comm (a - b) k ∙ mul-sub k a b ∙ rw (mul_comm k a, mul_comm k b)

pub times : (a b k : ℕ) → sub_ℕ a b *ℤ pos k ≡ sub_ℕ (a * k) (b * k)
times a b k =
    ⊎_elim
    (λ (h : a < b).
    ap (λ (z : ℤ). z *ℤ pos k) (sub_lt a b h)
    ∙ ap (λ (m : ℕ). neg_ℤ (pos (m * k))) (steps h)
    ∙ negation ((b - a) * k)
    ∙ sym (shifted 0 ((b - a) * k) (a * k))
    ∙ ap (λ (m : ℕ). sub_ℕ m ((b - a) * k + a * k)) (omega arith)
    ∙ ap (sub_ℕ (a * k)) (omega (arith, difference_times b a k, mul-le-mul_right k (less h))))
    (λ (h : b ≤ a).
    ap (λ (z : ℤ). z *ℤ pos k) (sub_ge a b h)
    ∙ ap pos (difference_times a b k)
    ∙ sym (sub_ge (a * k) (b * k) (mul-le-mul_right k h)))
    (cases_lt a b)
  where
    steps : a < b → suc (b - suc a) ≡ b - a
    steps h = omega arith

    less : a < b → a ≤ b
    less h = omega arith

pub times_one : (z : ℤ) → z *ℤ pos 1 ≡ z
times_one z = grind arith

pub times_left : (k a b : ℕ) → pos k *ℤ sub_ℕ a b ≡ sub_ℕ (k * a) (k * b)
times_left k a b = *ℤ_comm (pos k) (sub_ℕ a b) ∙ times a b k ∙ rw (mul_comm a k, mul_comm b k)

-- the sign of a product
pub negation_times : (z : ℤ) (k : ℕ) → neg_ℤ (z *ℤ pos k) ≡ neg_ℤ z *ℤ pos k
negation_times z k = grind arith
