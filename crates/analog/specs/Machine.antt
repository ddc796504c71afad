-- How the code computes: what its private functions promise. Nothing that a caller may cite stands here.
use Rattle.std.specs.Prelude.{ℕ, suc, ◌+◌, ◌-◌, ◌*◌, ◌/◌, ◌%◌, ◌≤◌, ◌<◌, min, [], ◌∷◌, ℤ, pos, negsuc, get_or}
use Rattle.analog.specs.Code.{calibration_of}

-- a voltage above the least 32-bit one, so that it is not negative
abbrev pub raised_of : ℤ → ℕ
raised_of (pos n) = n + 2_147_483_648
raised_of (negsuc n) = 2_147_483_648 - suc n

-- how far a range's low end is below 0 V
abbrev pub depth_of : ℕ → ℕ
depth_of range = get_or (5_000_000 ∷ 10_000_000 ∷ 0 ∷ 0 ∷ []) (range % 4) 0

-- 65536 / s is this number over 78125
abbrev pub factor_of : ℕ → ℕ
factor_of range = get_or (512 ∷ 256 ∷ 1024 ∷ 512 ∷ []) (range % 4) 0

-- a difference, 0 where it would be negative, over bottom, rounded down and limited
abbrev pub limited_quotient : (top less bottom : ℕ) → ℕ
limited_quotient top less bottom = min ((top - less) / bottom) 65535

-- the correction's fraction, reduced: the slope g × (VH - VL), the base VL × g - z, the span high sum - low sum
abbrev pub nearest_count : (slope base factor span low_sum raw : ℕ) → ℕ
nearest_count slope base factor span low_sum raw =
    limited_quotient
    (2 * factor * (slope * (32 * raw) + base * span) + 78125 * span)
    (2 * factor * (slope * low_sum))
    (2 * (78125 * span))

-- what its numbers are at most, so that each product fits 64 bits
pub record CountFits (slope base factor span low_sum raw : ℕ) : Type 0 where
  pub slope_most : slope ≤ 39_200_000
  pub base_most : base ≤ 49_200_000
  pub factor_most : factor ≤ 1024
  pub span_least : 0 < span
  pub span_most : span ≤ 2_097_120
  pub sum_most : low_sum ≤ 2_097_120
  pub raw_most : raw ≤ 65_535

-- what questions 15 to 17 leave of a correction's arguments
pub record Correctable (high low high_sum low_sum raw : ℕ) : Type 0 where
  pub voltages : calibration_of low < calibration_of high
  pub sums : low_sum < high_sum
  pub sum_most : high_sum ≤ 2_097_120
  pub raw_most : raw ≤ 65_535
