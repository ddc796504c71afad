-- Bench cases of the analog arithmetic, worked by hand from the rules beside them, as one table with one claim.
use Rattle.std.specs.Prelude.{ℕ, Bool, true, false, List, [], ◌∷◌, ◌≡◌, ℤ, pos, neg_ℤ, Ok, Err}
use Rattle.analog.specs.Answers.{Answer, number_of_refusal, packed}
use Rattle.analog.specs.Code.{low_end, width_of, gain_of, calibration_of, code_of, in_format}
use Rattle.analog.specs.Correction.{corrected_answer}
use Rattle.analog.specs.declared.Refusal.{Refusal}
use Rattle.analog.specs.declared.Refusal.TheVariants.{BadWidth, BadOffset, Unmapped, BadValue, BadDirection, Busy, BadCode, NoScan, BadChannels, BadInterval, BadChannel, BadVoltage, BadTicks, BadRange, BadCalibration, BadCodes, BadSums, BadHeading, BadField, ShortBuffer, BadWindow, BadSlot, StrayAnswer, BadSeed, NoRoom}

-- every case of a table holds
abbrev pub AllHold : {A : Type 0} → (holds : A → Type 0) → List A → Type 0
AllHold holds [] = Unit
AllHold holds (c ∷ cs) = holds c × AllHold holds cs

pub data Case : Type 0 where
  -- the number of a refusal
  number_is : Refusal → (expected : ℕ) → Case
  -- an answer as one number
  packed_is : Answer → (expected : ℕ) → Case
  -- a range: its low end and its width, in uV
  range_is : (range : ℕ) (low : ℤ) (width : ℕ) → Case
  -- the gain that a gain field means
  gain_is : (field expected : ℕ) → Case
  -- the voltage of a calibration, in uV
  calibration_is : (acquisition expected : ℕ) → Case
  -- the code of a voltage in a format
  code_is : (range gain : ℕ) (v : ℤ) (straight : Bool) (expected : ℕ) → Case
  -- what the correction answers
  correction_is : (range gain high low high_sum low_sum raw : ℕ) → Answer → Case

abbrev pub Holds : Case → Type 0
Holds (number_is refusal expected) = number_of_refusal refusal ≡ expected
Holds (packed_is answer expected) = packed answer ≡ expected
Holds (range_is range low width) = (low_end range ≡ low) × (width_of range ≡ width)
Holds (gain_is field expected) = gain_of field ≡ expected
Holds (calibration_is acquisition expected) = calibration_of acquisition ≡ expected
Holds (code_is range gain v straight expected) = in_format straight (code_of range gain v) ≡ expected
Holds (correction_is range gain high low high_sum low_sum raw expected) =
    corrected_answer range gain high low high_sum low_sum raw ≡ expected

-- the table
abbrev pub cases : List Case
cases =
    -- a refusal has the number of its question
    number_is BadWidth 1
    ∷ number_is BadOffset 2
    ∷ number_is Unmapped 3
    ∷ number_is BadValue 4
    ∷ number_is BadDirection 5
    ∷ number_is Busy 6
    ∷ number_is BadCode 7
    ∷ number_is NoScan 8
    ∷ number_is BadChannels 9
    ∷ number_is BadInterval 10
    ∷ number_is BadChannel 11
    ∷ number_is BadVoltage 12
    ∷ number_is BadTicks 13
    ∷ number_is BadRange 14
    ∷ number_is BadCalibration 15
    ∷ number_is BadCodes 16
    ∷ number_is BadSums 17
    ∷ number_is BadHeading 18
    ∷ number_is BadField 19
    ∷ number_is ShortBuffer 20
    ∷ number_is BadWindow 21
    ∷ number_is BadSlot 22
    ∷ number_is StrayAnswer 26
    ∷ number_is BadSeed 27
    ∷ number_is NoRoom 28
    -- an answer as one number is 256 × value + number
    ∷ packed_is (Ok 0) 0
    ∷ packed_is (Ok 0x3beb8) 0x3beb800
    ∷ packed_is (Err BadSlot) 22
    -- range 0 is -5 to 5 V, 1 -10 to 10 V, 2 0 to 5 V, 3 0 to 10 V
    ∷ range_is 0 (neg_ℤ (pos 5_000_000)) 10_000_000
    ∷ range_is 1 (neg_ℤ (pos 10_000_000)) 20_000_000
    ∷ range_is 2 (pos 0) 5_000_000
    ∷ range_is 3 (pos 0) 10_000_000
    -- gain fields 0 to 3 mean 1, 2, 4, 8
    ∷ gain_is 0 1
    ∷ gain_is 1 2
    ∷ gain_is 2 4
    ∷ gain_is 3 8
    -- calibrations: 011 to 110 are 4.9, 2.45, 1.225 and 0.6125 V, 111 is 0 V
    ∷ calibration_is 0b011 4_900_000
    ∷ calibration_is 0b100 2_450_000
    ∷ calibration_is 0b101 1_225_000
    ∷ calibration_is 0b110 612_500
    ∷ calibration_is 0b111 0
    -- the middle of each range is 8000H, three quarters C000H; two's complement flips bit 15
    ∷ code_is 0 0 (pos 0) true 0x8000
    ∷ code_is 1 0 (pos 5_000_000) true 0xc000
    ∷ code_is 2 0 (pos 2_500_000) true 0x8000
    ∷ code_is 3 0 (pos 5_000_000) true 0x8000
    ∷ code_is 0 0 (pos 2_500_000) false 0x4000
    ∷ code_is 0 0 (neg_ℤ (pos 2_500_000)) true 0x4000
    ∷ code_is 0 0 (neg_ℤ (pos 2_500_000)) false 0xc000
    -- with gains 2, 4 and 8 the voltages that come to 2.5 V
    ∷ code_is 0 1 (pos 1_250_000) true 0xc000
    ∷ code_is 0 2 (pos 625_000) true 0xc000
    ∷ code_is 0 3 (pos 312_500) true 0xc000
    -- limited to 0..65535
    ∷ code_is 2 0 (pos 5_000_000) true 0xffff
    ∷ code_is 2 0 (neg_ℤ (pos 1)) true 0x0000
    -- 4.9 V over 0 V, sums 802,816 apart: a raw code is 1/50 of a count for each 1/32 that it is above the low one.
    -- 24/50 rounds down, 25/50 up
    ∷ correction_is 1 0 0b011 0b111 1_851_368 1_048_552 32_768 (Ok 32_768)
    ∷ correction_is 1 0 0b011 0b111 1_851_367 1_048_551 32_768 (Ok 32_769)
    -- asked first: range and gain at most 3, both codes 011 to 111, the high voltage above the low one; then sums and raw code;
    -- then the sums' order
    ∷ correction_is 4 0 0b011 0b111 2 1 0 (Err BadCalibration)
    ∷ correction_is 0 4 0b011 0b111 2 1 0 (Err BadCalibration)
    ∷ correction_is 0 0 0b1011 0b111 2 1 0 (Err BadCalibration)
    ∷ correction_is 0 0 0b011 0b010 2 1 0 (Err BadCalibration)
    ∷ correction_is 0 0 0b111 0b011 2 1 65_536 (Err BadCalibration)
    ∷ correction_is 0 0 0b011 0b111 2_097_121 1 0 (Err BadCodes)
    ∷ correction_is 0 0 0b011 0b111 1 2_097_121 0 (Err BadCodes)
    ∷ correction_is 0 0 0b011 0b111 1 1 65_536 (Err BadCodes)
    ∷ correction_is 0 0 0b011 0b111 1 1 0 (Err BadSums)
    ∷ []

-- the claim that `analog_cases` proves
abbrev pub AnalogCases : Type 0
AnalogCases = AllHold Holds cases
