-- Exact fractions, so that the data sheet's formulas stand here as it writes them, and are rounded only where it says so.
-- The operations are marked ℚ, as those of the integers are marked ℤ.
use Rattle.std.specs.Prelude.{ℕ, zero, suc, ◌*◌, ◌/◌, ◌<◌, ℤ, pos, negsuc, neg_ℤ, ◌+ℤ◌, ◌-ℤ◌, ◌*ℤ◌}
use Rattle.std.proofs.Common.{zero-lt-suc, mul-pos}

infixl 6 ◌+ℚ◌ ◌-ℚ◌
infixl 7 ◌*ℚ◌ ◌/ℚ◌
-- top / bottom, where bottom is positive
pub data Fraction : Type 0 where
  fraction : (top : ℤ) (bottom : ℕ) (positive : 0 < bottom) → Fraction

-- a whole number is itself over 1
abbrev pub whole : ℤ → Fraction
whole n = fraction n 1 (zero-lt-suc 0)

-- the same of a number with no sign
abbrev pub natural : ℕ → Fraction
natural n = whole (pos n)

-- a / b + c / d = (a × d + c × b) / (b × d)
abbrev pub ◌+ℚ◌ : Fraction → Fraction → Fraction
fraction a b p +ℚ fraction c d q = fraction (a *ℤ pos d +ℤ c *ℤ pos b) (b * d) (mul-pos p q)

-- a / b - c / d = (a × d - c × b) / (b × d)
abbrev pub ◌-ℚ◌ : Fraction → Fraction → Fraction
fraction a b p -ℚ fraction c d q = fraction (a *ℤ pos d -ℤ c *ℤ pos b) (b * d) (mul-pos p q)

-- (a / b) × (c / d) = (a × c) / (b × d)
abbrev pub ◌*ℚ◌ : Fraction → Fraction → Fraction
fraction a b p *ℚ fraction c d q = fraction (a *ℤ c) (b * d) (mul-pos p q)

-- 1 / (c / d) = d / c, where a sign of c goes to the top.
-- 1 / 0 is 0, only so that each definition is total: no accepted call divides by 0
abbrev pub inverse : Fraction → Fraction
inverse (fraction (pos zero) d q) = natural 0
inverse (fraction (pos (suc c)) d q) = fraction (pos d) (suc c) (zero-lt-suc c)
inverse (fraction (negsuc c) d q) = fraction (neg_ℤ (pos d)) (suc c) (zero-lt-suc c)

-- x / y = x × (1 / y), so that x / 0 is 0
abbrev pub ◌/ℚ◌ : Fraction → Fraction → Fraction
x /ℚ y = x *ℚ inverse y

-- rounded down, towards minus infinity: -(n + 1) / b becomes -(n div b + 1)
abbrev pub rounded_down : Fraction → ℤ
rounded_down (fraction (pos n) b p) = pos (n / b)
rounded_down (fraction (negsuc n) b p) = negsuc (n / b)

-- the nearest whole number, halves up: one half more, rounded down
abbrev pub nearest : Fraction → ℤ
nearest x = rounded_down (x +ℚ natural 1 /ℚ natural 2)
