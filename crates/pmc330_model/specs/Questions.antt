-- The questions of each call, in order: the first that is answered with no refuses it with its number (data sheet, "Refusals").
-- They are asked of the registers, the gains and whether the board is idle, so that the board and the logbook can both answer them.
use Rattle.std.specs.Prelude.{ℕ, ◌/◌, ◌%◌, ◌^◌, Bool, true, not, ◌&&◌, ◌||◌, List, [], ◌∷◌, ◌++◌, ℤ, pos, neg_ℤ, if◌then◌else◌, ◌==◌, nat_le, nat_lt}
use Rattle.std.specs.Int.Signed.{le_z}
use Rattle.analog.specs.Answers.{Question, question}
use Rattle.pmc330_model.specs.Map.{class_of, is_mapped, is_readable, is_writable, trigger_field, acquisition_field, scan_field, is_timer_enabled, interrupt_field}
use Rattle.pmc330_model.specs.declared.Register.{Register}
use Rattle.pmc330_model.specs.declared.Register.TheVariants.{Interrupt, Control, Channels, StartConvert}
use Rattle.pmc330_model.specs.Words.{held_word, written_word, with_word, bit_of, is_start}
use Rattle.pmc330_model.specs.Schedule.{interval, is_differential, is_uniform}
use Rattle.pmc330_model.specs.Calls.{Call, read, write, input, advance, trigger, reset, look, clear}
use Rattle.pmc330_model.specs.declared.Registers.{Registers}
use Rattle.analog.specs.declared.Refusal.TheVariants.{NoScan, BadChannels, BadInterval, BadWidth, BadOffset, Unmapped, BadDirection, Busy, BadCode, BadValue, BadChannel, BadVoltage, BadSlot, BadTicks}

-- 1: the width is 8, 16 or 32
abbrev pub is_width : ℕ → Bool
is_width width = width == 8 || width == 16 || width == 32

-- 2: the offset is below 256 and a multiple of width / 8
abbrev pub is_aligned : (width offset : ℕ) → Bool
is_aligned width offset = nat_lt offset 256 && offset % (width / 8) == 0

-- 6, of a write, by the word and the registers that it results in: the board is idle, or this is a write of Interrupt, of Control
-- with scan 000, or of Start Convert without bit 0
abbrev pub is_allowed : (idle : Bool) → Register → (word : ℕ) → (resulting : Registers) → Bool
is_allowed idle Interrupt word resulting = true
is_allowed idle Control word resulting = idle || scan_field resulting.control == 0
is_allowed idle StartConvert word resulting = idle || not (bit_of 0 word)
is_allowed idle _ word resulting = idle

-- trigger 11, acquisition 010, scan 110 and 111 and interrupt 11 are not used
abbrev pub has_used_codes : (control : ℕ) → Bool
has_used_codes word =
    not (trigger_field word == 3)
    && not (acquisition_field word == 2)
    && nat_le (scan_field word) 5
    && not (interrupt_field word == 3)

-- 7: the resulting Control holds no code that is not used; the resulting Start and End Channel are at most 31
abbrev pub is_valid : Register → (resulting : Registers) → Bool
is_valid Control resulting = has_used_codes resulting.control
is_valid Channels resulting = nat_le resulting.start 31 && nat_le resulting.end 31
is_valid _ resulting = true

-- 9: Start is at most End, and End at most 15 if differential
abbrev pub has_channels : Registers → Bool
has_channels r = nat_le r.start r.end && (not (is_differential r) || nat_le r.end 15)

-- 10: in uniform modes the timer is enabled; there, and in burst continuous with the timer enabled, I is at least 64
abbrev pub has_interval : Registers → Bool
has_interval r =
    (not (is_uniform r) || is_timer_enabled r.control)
    && (not (is_uniform r || scan_field r.control == 3 && is_timer_enabled r.control) || nat_le 64 (interval r))

-- 8, 9 and 10: of a write of Start Convert with bit 0 set, after the others
abbrev pub start_questions : Registers → List Question
start_questions r =
    question NoScan (not (scan_field r.control == 0))
    ∷ question BadChannels (has_channels r)
    ∷ question BadInterval (has_interval r)
    ∷ []

-- 1, 2 and 3: of every access, with the register that its offset belongs to
abbrev pub access_questions : (width offset : ℕ) → Register → List Question
access_questions width offset register =
    question BadWidth (is_width width)
    ∷ question BadOffset (is_aligned width offset)
    ∷ question Unmapped (is_mapped register)
    ∷ []

-- a read: 4 is about written values, and 6 and 7 are met by every read
abbrev pub read_questions : (width offset : ℕ) → Register → List Question
read_questions width offset register = access_questions width offset register ++ (question BadDirection (is_readable register) ∷ [])

-- 5 and on: of the word that a write results in, and the registers that would hold it
abbrev pub word_questions : Registers → (idle : Bool) → Register → (word : ℕ) → (resulting : Registers) → List Question
word_questions r idle register word resulting =
    question BadDirection (is_writable register)
    ∷ question Busy (is_allowed idle register word resulting)
    ∷ question BadCode (is_valid register resulting)
    ∷ (if is_start register word then start_questions r else [])

abbrev pub write_questions :
    Registers → (idle : Bool) → (width offset value : ℕ) → Register → (word : ℕ) → (resulting : Registers) → List Question
write_questions r idle width offset value register word resulting =
    access_questions width offset register
    ++ (question BadValue (nat_lt value (2 ^ width)) ∷ word_questions r idle register word resulting)

-- the word that a write results in, of the registers as they are
abbrev pub resulting_word : Registers → (gains : List ℕ) → (width offset value : ℕ) → ℕ
resulting_word r gains width offset value = written_word width offset value (held_word r gains (class_of offset))

-- 11 and 12: of an input change
abbrev pub is_input : (microvolts : ℤ) → Bool
is_input microvolts = le_z (neg_ℤ (pos 35_000_000)) microvolts && le_z microvolts (pos 55_000_000)

abbrev pub input_questions : (channel : ℕ) → (microvolts : ℤ) → List Question
input_questions channel microvolts = question BadChannel (nat_le channel 31) ∷ question BadVoltage (is_input microvolts) ∷ []

-- 22: all that a look and a clear are asked, also while a cycle runs
abbrev pub slot_questions : (slot : ℕ) → List Question
slot_questions slot = question BadSlot (nat_le slot 31) ∷ []

-- the questions of each call, 13 of an advance; a trigger and a reset are asked none
unfoldable pub call_questions : Registers → (gains : List ℕ) → (idle : Bool) → Call → List Question
call_questions r gains idle (read width offset) = read_questions width offset (class_of offset)
call_questions r gains idle (write width offset value) =
    let word : ℕ = resulting_word r gains width offset value in
    write_questions r idle width offset value (class_of offset) word (with_word (class_of offset) word r)
call_questions r gains idle (input channel microvolts) = input_questions channel microvolts
call_questions r gains idle (advance ticks) = question BadTicks (nat_le ticks 16_777_216) ∷ []
call_questions r gains idle trigger = []
call_questions r gains idle reset = []
call_questions r gains idle (look slot) = slot_questions slot
call_questions r gains idle (clear slot) = slot_questions slot
