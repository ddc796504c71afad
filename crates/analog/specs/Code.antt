-- The code of a voltage (data sheet, "Code of a voltage"). Voltages are in uV.
-- A range and a gain field have four values and an acquisition code eight: of any other number the remainder counts,
-- so that each definition is total. No board and no accepted correction has another number.
use Rattle.std.specs.Prelude.{ℕ, ◌+◌, ◌-◌, ◌%◌, min, Bool, if◌then◌else◌, [], ◌∷◌, nat_lt, ℤ, pos, negsuc, neg_ℤ, get_or}
use Rattle.analog.specs.Fractions.{Fraction, whole, natural, ◌-ℚ◌, ◌*ℚ◌, ◌/ℚ◌, rounded_down}

-- z, the low end of a range: range 0 is ±5 V, 1 ±10 V, 2 0 to 5 V, 3 0 to 10 V
abbrev pub low_end : ℕ → ℤ
low_end range = get_or (neg_ℤ (pos 5_000_000) ∷ neg_ℤ (pos 10_000_000) ∷ pos 0 ∷ pos 0 ∷ []) (range % 4) (pos 0)

-- and s, its width
abbrev pub width_of : ℕ → ℕ
width_of range = get_or (10_000_000 ∷ 20_000_000 ∷ 5_000_000 ∷ 10_000_000 ∷ []) (range % 4) 0

-- g: gain fields 0 to 3 mean gain 1, 2, 4, 8
abbrev pub gain_of : ℕ → ℕ
gain_of field = get_or (1 ∷ 2 ∷ 4 ∷ 8 ∷ []) (field % 4) 0

-- the voltages of the calibrations, 011 to 111; 000 to 010 are no calibration, and have 0 here
abbrev pub calibration_of : ℕ → ℕ
calibration_of acquisition =
    get_or (0 ∷ 0 ∷ 0 ∷ 4_900_000 ∷ 2_450_000 ∷ 1_225_000 ∷ 612_500 ∷ 0 ∷ []) (acquisition % 8) 0

-- limited to 0..65535
abbrev pub limited : ℤ → ℕ
limited (pos n) = min n 65535
limited (negsuc n) = 0

-- (v × g - z) × 65536 / s rounded down, then limited
unfoldable pub code_of : (range gain : ℕ) (v : ℤ) → ℕ
code_of range gain v =
    let g : Fraction = natural (gain_of gain) in
    let z : Fraction = whole (low_end range) in
    let s : Fraction = natural (width_of range) in
    limited (rounded_down ((whole v *ℚ g -ℚ z) *ℚ natural 65536 /ℚ s))

-- two's complement flips bit 15, and a straight code stays; a code has 16 bits, and bit 15 is set from 8000H on
unfoldable pub in_format : (straight : Bool) (code : ℕ) → ℕ
in_format straight code = if straight then code else (if nat_lt code 0x8000 then code + 0x8000 else code - 0x8000)
