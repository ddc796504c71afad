-- The answer of a call: it is asked its questions in order, and the first that is answered with no refuses it
-- (data sheet, "Refusals").
use Rattle.std.specs.Prelude.{ℕ, ◌+◌, ◌*◌, Bool, true, false, if◌then◌else◌, ◌&&◌, List, [], ◌∷◌, Result, Ok, Err, ⊤}
use Rattle.analog.specs.declared.Refusal.{Refusal}
use Rattle.analog.specs.declared.Refusal.TheVariants.{BadWidth, BadOffset, Unmapped, BadValue, BadDirection, Busy, BadCode, NoScan, BadChannels, BadInterval, BadChannel, BadVoltage, BadTicks, BadRange, BadCalibration, BadCodes, BadSums, BadHeading, BadField, ShortBuffer, BadWindow, BadSlot, StrayAnswer, BadSeed, NoRoom}

-- the number of each refusal: that of its question
abbrev pub number_of_refusal : Refusal → ℕ
number_of_refusal BadWidth = 1
number_of_refusal BadOffset = 2
number_of_refusal Unmapped = 3
number_of_refusal BadValue = 4
number_of_refusal BadDirection = 5
number_of_refusal Busy = 6
number_of_refusal BadCode = 7
number_of_refusal NoScan = 8
number_of_refusal BadChannels = 9
number_of_refusal BadInterval = 10
number_of_refusal BadChannel = 11
number_of_refusal BadVoltage = 12
number_of_refusal BadTicks = 13
number_of_refusal BadRange = 14
number_of_refusal BadCalibration = 15
number_of_refusal BadCodes = 16
number_of_refusal BadSums = 17
number_of_refusal BadHeading = 18
number_of_refusal BadField = 19
number_of_refusal ShortBuffer = 20
number_of_refusal BadWindow = 21
number_of_refusal BadSlot = 22
number_of_refusal StrayAnswer = 26
number_of_refusal BadSeed = 27
number_of_refusal NoRoom = 28

-- what a call answers: its value, or why it is refused
abbrev pub Answer : Type 0
Answer = Result ℕ Refusal

-- the number of each case: 0 if it is accepted, else that of its question
abbrev pub number_of : Answer → ℕ
number_of (Ok value) = 0
number_of (Err refusal) = number_of_refusal refusal

-- the value of each case; a refused call's is 0
abbrev pub value_of : Answer → ℕ
value_of (Ok value) = value
value_of (Err refusal) = 0

abbrev pub is_accepted : Answer → Bool
is_accepted (Ok value) = true
is_accepted (Err refusal) = false

-- a question that a call is asked: how it refuses, and whether its answer is yes
pub record Question : Type 0 where
  pub refusal : Refusal
  pub met : Bool

abbrev pub question : Refusal → Bool → Question
question refusal met = record { refusal = refusal; met = met }

-- the number of the first question that is answered with no; 0 if none is
unfoldable pub first_no : List Question → ℕ
first_no [] = 0
first_no (q ∷ later) = if q.met then first_no later else number_of_refusal q.refusal

-- no question is answered with no
unfoldable pub all_met : List Question → Bool
all_met [] = true
all_met (q ∷ later) = q.met && all_met later

-- a call that is asked these questions, in order: the first that is answered with no refuses it
unfoldable pub asked : List Question → Result ⊤ Refusal
asked [] = Ok record {}
asked (q ∷ later) = if q.met then asked later else Err q.refusal

-- and it has this value if it is accepted
abbrev pub with_value : Result ⊤ Refusal → ℕ → Answer
with_value (Ok all) value = Ok value
with_value (Err refusal) value = Err refusal

unfoldable pub answered : List Question → ℕ → Answer
answered questions value = with_value (asked questions) value

-- the answer as one number, as C gets it, in the manner of the player: 256 × value + number
abbrev pub packed : Answer → ℕ
packed answer = 256 * value_of answer + number_of answer
