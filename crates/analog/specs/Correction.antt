-- The two-point correction (data sheet, "Two-point correction").
use Rattle.std.specs.Prelude.{ℕ, Bool, ◌&&◌, List, [], ◌∷◌, nat_le, nat_lt}
use Rattle.analog.specs.Answers.{Answer, Question, question, answered}
use Rattle.analog.specs.Code.{low_end, width_of, gain_of, calibration_of, limited}
use Rattle.analog.specs.Fractions.{Fraction, whole, natural, ◌+ℚ◌, ◌-ℚ◌, ◌*ℚ◌, ◌/ℚ◌, nearest}
use Rattle.analog.specs.declared.Refusal.TheVariants.{BadCalibration, BadCodes, BadSums}

-- the acquisition codes of the calibrations are 011 to 111
abbrev pub is_calibration : ℕ → Bool
is_calibration acquisition = nat_le 3 acquisition && nat_le acquisition 7

-- 15: range and gain field are at most 3, both codes are calibrations, and the high voltage is above the low one
abbrev pub pair_usable : (range gain high low : ℕ) → Bool
pair_usable range gain high low =
    nat_le range 3
    && nat_le gain 3
    && is_calibration high
    && is_calibration low
    && nat_lt (calibration_of low) (calibration_of high)

-- 16: both sums are at most 2,097,120, which is 32 × 65,535, and the raw code at most 65,535
abbrev pub sums_possible : (high_sum low_sum raw : ℕ) → Bool
sums_possible high_sum low_sum raw = nat_le high_sum 2_097_120 && nat_le low_sum 2_097_120 && nat_le raw 65_535

-- the questions of a correction, in order; 17: the high sum is above the low one
abbrev pub correction_questions : (range gain high low high_sum low_sum raw : ℕ) → List Question
correction_questions range gain high low high_sum low_sum raw =
    question BadCalibration (pair_usable range gain high low)
    ∷ question BadCodes (sums_possible high_sum low_sum raw)
    ∷ question BadSums (nat_lt low_sum high_sum)
    ∷ []

-- Equation 1 of the manuals, with m' by their equation 2: VH and VL are the calibration voltages, CH and CL the sums / 32, and
-- g, z and s are those of the code of a voltage
abbrev pub exact_value : (range gain high low high_sum low_sum raw : ℕ) → Fraction
exact_value range gain high low high_sum low_sum raw =
    let g : Fraction = natural (gain_of gain) in
    let z : Fraction = whole (low_end range) in
    let s : Fraction = natural (width_of range) in
    let VH : Fraction = natural (calibration_of high) in
    let VL : Fraction = natural (calibration_of low) in
    let CH : Fraction = natural high_sum /ℚ natural 32 in
    let CL : Fraction = natural low_sum /ℚ natural 32 in
    let m' : Fraction = g *ℚ (VH -ℚ VL) /ℚ (CH -ℚ CL) in
    natural 65536 /ℚ s *ℚ (m' *ℚ (natural raw -ℚ CL) +ℚ VL *ℚ g -ℚ z)

-- the exact value to the nearest whole number, halves up, then limited
unfoldable pub corrected_count : (range gain high low high_sum low_sum raw : ℕ) → ℕ
corrected_count range gain high low high_sum low_sum raw =
    limited (nearest (exact_value range gain high low high_sum low_sum raw))

-- the whole call
unfoldable pub corrected_answer : (range gain high low high_sum low_sum raw : ℕ) → Answer
corrected_answer range gain high low high_sum low_sum raw =
    answered (correction_questions range gain high low high_sum low_sum raw)
    (corrected_count range gain high low high_sum low_sum raw)
