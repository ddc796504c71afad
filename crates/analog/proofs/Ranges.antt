-- What the code's tables say of the ranges, the gains and the calibration voltages.
use mathlib.Core.Path.{◌≡◌, refl}
use Prim.Native.Nat.{ℕ, ◌+◌, ◌-◌, ◌*◌, ◌/◌, ◌%◌, ◌<◌}
use native.Mathlib.Nat.{mod-mod, mul-div-mul_left}
use native.Mathlib.Omega.{arith}
use lib.Dec.{lit<}
use lib.IntN.{pos, neg_ℤ}
use Rattle.analog.specs.Code.{low_end, width_of}
use Rattle.analog.specs.Machine.{depth_of, factor_of}

-- what holds at 0 to 3 holds at every remainder by 4
pub four : (P : ℕ → Type 0) → P 0 → P 1 → P 2 → P 3 → (n : ℕ) → P (n % 4)
four P p₀ p₁ p₂ p₃ n = grind arith

pub low_end_lem : (range : ℕ) → neg_ℤ (low_end range) ≡ pos (depth_of range)
low_end_lem range = rw mod-mod at (four (λ i. neg_ℤ (low_end i) ≡ pos (depth_of i)) refl refl refl refl range)

pub some_width : (range : ℕ) → 0 < width_of range
some_width range = rw mod-mod at (four (λ i. 0 < width_of i) (lit< tt) (lit< tt) (lit< tt) (lit< tt) range)

-- a fraction with a common factor
pub cancelled : (k top bottom : ℕ) {x y : ℕ} → 0 < k → x ≡ k * top → y ≡ k * bottom → x / y ≡ top / bottom
cancelled k top bottom some p q = rw (p, q, mul-div-mul_left top bottom some)

-- 65536 / s is the range's factor over 78125
pub code_reduced : (range a b : ℕ) → (a * 65536 - b * 65536) / width_of range ≡ (a * factor_of range - b * factor_of range) / 78125
code_reduced range a b = grind arith

-- the same in the correction's fraction, with its half of the denominator added
pub correction_reduced :
    (range up down span : ℕ)
    → (65536 * up * 2 + width_of range * span - 65536 * down * 2) / (width_of range * span * 2)
    ≡ (2 * factor_of range * up + 78125 * span - 2 * factor_of range * down) / (2 * (78125 * span))
correction_reduced range up down span =
    rw mod-mod at
    (four
    (λ i.
    (65536 * up * 2 + width_of i * span - 65536 * down * 2) / (width_of i * span * 2)
    ≡ (2 * factor_of i * up + 78125 * span - 2 * factor_of i * down) / (2 * (78125 * span)))
    (cancelled 128 (1024 * up + 78125 * span - 1024 * down) (2 * (78125 * span)) (lit< tt) (omega arith) (omega arith))
    (cancelled 256 (512 * up + 78125 * span - 512 * down) (2 * (78125 * span)) (lit< tt) (omega arith) (omega arith))
    (cancelled 64 (2048 * up + 78125 * span - 2048 * down) (2 * (78125 * span)) (lit< tt) (omega arith) (omega arith))
    (cancelled 128 (1024 * up + 78125 * span - 1024 * down) (2 * (78125 * span)) (lit< tt) (omega arith) (omega arith))
    range)
