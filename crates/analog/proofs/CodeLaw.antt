-- The code of a voltage by unsigned numbers.
use mathlib.Core.Path.{◌≡◌, ap, ◌∙◌}
use Prim.Native.Nat.{ℕ, ◌+◌, ◌*◌, ◌<◌, min}
use native.Mathlib.Omega.{arith}
use lib.IntN.{ℤ, pos, neg_ℤ, sub_ℕ, ◌+ℤ◌, ◌*ℤ◌}
use lib.Signed.{mag}
use Rattle.analog.specs.Code.{low_end, width_of, gain_of, code_of}
use Rattle.analog.specs.Machine.{raised_of, depth_of, factor_of, limited_quotient}
use Rattle.analog.proofs.Integers.{plus, times, times_one}
use Rattle.analog.proofs.FractionLaws.{whole_over, limited_down}
use Rattle.analog.proofs.Ranges.{low_end_lem, some_width, code_reduced}

pub raised_difference : (v : ℤ) → mag v < 2_147_483_648 → v ≡ sub_ℕ (raised_of v) 2_147_483_648
raised_difference v h = grind arith

module _ (range gain : ℕ) (v : ℤ) (fits : mag v < 2_147_483_648) where
  scaled : v *ℤ pos (gain_of gain) +ℤ neg_ℤ (low_end range) ≡ sub_ℕ (raised_of v * gain_of gain + depth_of range) (2_147_483_648 * gain_of gain)
  scaled =
      ap (λ (u : ℤ). u *ℤ pos (gain_of gain) +ℤ neg_ℤ (low_end range)) (raised_difference v fits)
      ∙ ap (λ (u : ℤ). u +ℤ neg_ℤ (low_end range)) (times (raised_of v) 2_147_483_648 (gain_of gain))
      ∙ ap (λ (u : ℤ). sub_ℕ (raised_of v * gain_of gain) (2_147_483_648 * gain_of gain) +ℤ u) (low_end_lem range)
      ∙ plus (raised_of v * gain_of gain) (2_147_483_648 * gain_of gain) (depth_of range)

  pub code_law :
      code_of range gain v
      ≡ limited_quotient ((raised_of v * gain_of gain + depth_of range) * factor_of range) (2_147_483_648 * gain_of gain * factor_of range) 78125
  unfolding code_of
  code_law =
      let a : ℕ = raised_of v * gain_of gain + depth_of range in
      let b : ℕ = 2_147_483_648 * gain_of gain in
      rw (whole_over (some_width range))
      (simp (times_one, scaled, times) (limited_down (a * 65536) (b * 65536) (width_of range) (some_width range)))
      ∙ ap (λ (q : ℕ). min q 65535) (code_reduced range a b)
