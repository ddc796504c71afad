-- A refusal and its number: the number is neither 0 nor large, and is that refusal's alone.
use mathlib.Core.Bool.{cond}
use mathlib.Core.Path.{◌≡◌, refl, sym, ap, ◌∙◌}
use Prim.Native.Nat.{ℕ, ◌<◌}
use native.Mathlib.Omega.{arith}
use lib.Dec.{eqb}
use Rattle.analog.specs.Answers.{number_of_refusal}
use Rattle.analog.specs.declared.Refusal.{Refusal}
use Rattle.analog.specs.declared.Refusal.TheVariants.{BadWidth, BadOffset, Unmapped, BadValue, BadDirection, Busy, BadCode, NoScan, BadChannels, BadInterval, BadChannel, BadVoltage, BadTicks, BadRange, BadCalibration, BadCodes, BadSums, BadHeading, BadField, ShortBuffer, BadWindow, BadSlot, StrayAnswer, BadSeed, NoRoom}

-- the refusal of a number
refusal_of : (number : ℕ) → Refusal
refusal_of number =
    cond (eqb number 1) BadWidth
    (cond (eqb number 2) BadOffset
    (cond (eqb number 3) Unmapped
    (cond (eqb number 4) BadValue
    (cond (eqb number 5) BadDirection
    (cond (eqb number 6) Busy
    (cond (eqb number 7) BadCode
    (cond (eqb number 8) NoScan
    (cond (eqb number 9) BadChannels
    (cond (eqb number 10) BadInterval
    (cond (eqb number 11) BadChannel
    (cond (eqb number 12) BadVoltage
    (cond (eqb number 13) BadTicks
    (cond (eqb number 14) BadRange
    (cond (eqb number 15) BadCalibration
    (cond (eqb number 16) BadCodes
    (cond (eqb number 17) BadSums
    (cond (eqb number 18) BadHeading
    (cond (eqb number 19) BadField
    (cond (eqb number 20) ShortBuffer
    (cond (eqb number 21) BadWindow
    (cond (eqb number 22) BadSlot (cond (eqb number 26) StrayAnswer (cond (eqb number 27) BadSeed NoRoom)))))))))))))))))))))))

record Numbered (refusal : Refusal) : Type 0 where
  some : 0 < number_of_refusal refusal
  small : number_of_refusal refusal < 256
  back : refusal_of (number_of_refusal refusal) ≡ refusal

numbered : (refusal : Refusal) → Numbered refusal
unfolding refusal_of
numbered BadWidth = record { some = omega arith; small = omega arith; back = refl }
numbered _ = record { some = omega arith; small = omega arith; back = refl }

-- no refusal has number 0
pub number_some : (refusal : Refusal) → 0 < number_of_refusal refusal
number_some refusal = (numbered refusal).some

pub number_small : (refusal : Refusal) → number_of_refusal refusal < 256
number_small refusal = (numbered refusal).small

pub same_refusal : (a b : Refusal) → number_of_refusal a ≡ number_of_refusal b → a ≡ b
same_refusal a b e = sym (numbered a).back ∙ ap refusal_of e ∙ (numbered b).back
