-- The corrected count by unsigned numbers.
use mathlib.Core.Path.{◌≡◌, ap, ap₂, ◌∙◌}
use Prim.Native.Nat.{ℕ, ◌+◌, ◌-◌, ◌*◌, ◌<◌, min}
use native.Mathlib.Nat.{mul_comm, mul_assoc, mul_left_comm, mul-one, one-mul, mul-pos, sub-pos_iff_lt, le_of_lt}
use native.Mathlib.Omega.{arith}
use lib.Dec.{lit<}
use lib.IntN.{ℤ, pos, sub_ℕ, ◌-ℤ◌, ◌*ℤ◌}
use Rattle.analog.specs.Code.{width_of, gain_of, calibration_of, limited}
use Rattle.analog.specs.Fractions.{Fraction, fraction, nearest}
use Rattle.analog.specs.Correction.{exact_value, corrected_count}
use Rattle.analog.specs.Machine.{depth_of, factor_of, nearest_count}
use Rattle.analog.proofs.Integers.{exact, minus, plus, times_one, times_left, negation_times}
use Rattle.analog.proofs.FractionLaws.{same, whole_over, one_over, limited_nearest}
use Rattle.analog.proofs.Ranges.{low_end_lem, some_width, cancelled, correction_reduced}

-- 1024 is 32 × 32, from CH and CL: it stands in every product of the formula, above and below
taken_out : (x y : ℕ) → x * 1024 * y ≡ 1024 * (x * y)
taken_out x y = rw (mul_comm x 1024, mul_assoc 1024 x y)

top_taken_out :
    (slope raw low depth span : ℕ)
    → 65536 * (slope * 1024 * (raw * 32) + low * (1024 * span) + depth * (1024 * span))
    ≡ 1024 * (65536 * (slope * (32 * raw) + (low + depth) * span))
top_taken_out slope raw low depth span = grind arith

module _ (range gain high low high_sum low_sum raw : ℕ) (voltages : calibration_of low < calibration_of high) (sums : low_sum < high_sum) where
  abbrev slope : ℕ
  slope = gain_of gain * (calibration_of high - calibration_of low)

  abbrev span : ℕ
  span = high_sum - low_sum

  abbrev up : ℕ
  up = slope * (32 * raw) + (calibration_of low * gain_of gain + depth_of range) * span

  abbrev down : ℕ
  down = slope * low_sum

  some_bottom : 0 < 1024 * (width_of range * span)
  some_bottom = mul-pos (lit< tt) (mul-pos (some_width range) (sub-pos_iff_lt.1 sums))

  sloped :
      pos (gain_of gain) *ℤ (pos (calibration_of high) -ℤ pos (calibration_of low)) *ℤ pos 1024 *ℤ (pos (raw * 32) -ℤ pos low_sum)
      ≡ sub_ℕ (slope * 1024 * (raw * 32)) (slope * 1024 * low_sum)
  sloped =
      ap₂ (λ (v u : ℤ). pos (gain_of gain) *ℤ v *ℤ pos 1024 *ℤ u) (exact _ _ (le_of_lt voltages)) (minus (raw * 32) low_sum)
      ∙ times_left (slope * 1024) (raw * 32) low_sum

  -- the formula's value as one fraction
  one_fraction :
      exact_value range gain high low high_sum low_sum raw
      ≡ fraction (sub_ℕ (1024 * (65536 * up)) (1024 * (65536 * down))) (1024 * (width_of range * span)) some_bottom
  one_fraction =
      let less : low_sum * 1 * 32 < high_sum * 1 * 32 = omega arith in
      let bottom : (high_sum * 32 - low_sum * 32) * 32 ≡ 1024 * span = omega arith in
      rw (whole_over (some_width range), one_over less)
      (same
      (simp (times_one, mul-one, one-mul, bottom, sloped, negation_times, low_end_lem, plus, times_left)
      (ap₂ sub_ℕ (top_taken_out slope raw (calibration_of low * gain_of gain) (depth_of range) span) (rw (taken_out slope low_sum) (omega arith))))
      (simp (mul-one, one-mul, bottom) (mul_left_comm (width_of range) 1024 span)))

  pub correction_law :
      corrected_count range gain high low high_sum low_sum raw
      ≡ nearest_count (gain_of gain * (calibration_of high - calibration_of low)) (calibration_of low * gain_of gain + depth_of range) (factor_of range) (high_sum - low_sum) low_sum raw
  unfolding corrected_count
  correction_law =
      let d : ℕ = width_of range * span in
      ap (λ (x : Fraction). limited (nearest x)) one_fraction
      ∙ limited_nearest (1024 * (65536 * up)) (1024 * (65536 * down)) (1024 * d) some_bottom
      ∙ ap (λ (q : ℕ). min q 65535)
      (cancelled 1024 (65536 * up * 2 + d - 65536 * down * 2) (d * 2) (lit< tt) (omega arith) (omega arith)
      ∙ correction_reduced range up down span)
