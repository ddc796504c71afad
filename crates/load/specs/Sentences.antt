-- What the data sheet says of a load. Proved in proofs/Sentences.antt (`xor_by_bits`, `shifts_by_bits`, `loads_answered`, `loads_read`,
-- `loads_unique`, `loads_played`).
use Rattle.std.specs.Prelude.{ℕ, ◌+◌, ◌-◌, ◌*◌, ◌^◌, ◌≤◌, ◌<◌, true, false, if◌then◌else◌, not, ◌&&◌, List, [], ◌∷◌, map, ◌≡◌, nat_le, length, take, drop, pos, neg_ℤ, Ok, Err}
use Rattle.std.specs.List.{list_all}
use Rattle.analog.specs.Answers.{all_met, value_of}
use Rattle.analog.specs.Sentences.{AnsweredBy}
use Rattle.analog.specs.declared.Refusal.TheVariants.{BadRange, BadSeed, NoRoom}
use Rattle.pmc330_model.specs.Calls.{read, write, input, advance, trigger, reset}
use Rattle.pmc330_model.specs.Logbook.{logbook_answers}
use Rattle.pmc330_model.specs.Words.{bit_of}
use Rattle.trace.specs.Fields.{whole, range_of, is_heading, later_fields, is_undamaged, fields_after, call_fields, calls_of}
use Rattle.trace.specs.Play.{trace_questions, in_buffer, played_result, played_buffer}
use Rattle.load.specs.Bits.{shifted_left, shifted_right, xor_of, stepped}
use Rattle.load.specs.Load.{load_calls, is_byte, field_for, load_trace, load_length, load_questions, load_answer, load_output}

-- Exclusive or by its bits: it has 32, and each is set where just one of the two is
pub record XorByBits (x y : ℕ) : Type 0 where
  pub bit : (place : ℕ) → place < 32 → bit_of place (xor_of x y) ≡ (if bit_of place x then not (bit_of place y) else bit_of place y)
  pub most : xor_of x y < 2 ^ 32

abbrev pub EveryXor : Type 0
EveryXor = (x y : ℕ) → XorByBits x y

-- The shifts by their bits. To the left each goes up so many places, those below are 0, and those past 32 bits are lost; to the right
-- each goes down so many places, and those below the lowest are lost
pub record ShiftsByBits (places x : ℕ) : Type 0 where
  pub left : (place : ℕ) → place < 32 → bit_of place (shifted_left places x) ≡ (nat_le places place && bit_of (place - places) x)
  pub most : shifted_left places x < 2 ^ 32
  pub right : (place : ℕ) → bit_of place (shifted_right places x) ≡ bit_of (places + place) x

abbrev pub EveryShift : Type 0
EveryShift = (places x : ℕ) → ShiftsByBits places x

-- Sentence 1, of a load: refused where 27, 14 or 28 is answered with no, and then the buffer stays; else the value is the trace's
-- length, the trace stands at the front, and the bytes past it stay
pub record AnsweredLoad (seed range calls : ℕ) (out : List ℕ) : Type 0 where
  pub answer : AnsweredBy (load_questions seed range calls (length out)) (load_answer seed range calls (length out))
  pub refused : all_met (load_questions seed range calls (length out)) ≡ false → load_output seed range calls out ≡ out
  pub value :
      all_met (load_questions seed range calls (length out)) ≡ true
      → value_of (load_answer seed range calls (length out)) ≡ load_length seed range calls
  pub front :
      all_met (load_questions seed range calls (length out)) ≡ true
      → take (load_length seed range calls) (load_output seed range calls out) ≡ load_trace seed range calls
  pub beyond :
      drop (load_length seed range calls) (load_output seed range calls out)
      ≡ drop (load_length seed range calls) out
  pub size : length (load_output seed range calls out) ≡ length out

-- any seed, range and number of calls, any buffer
abbrev pub EveryLoad : Type 0
EveryLoad = (seed range calls : ℕ) (out : List ℕ) → AnsweredLoad seed range calls out

-- Read by the player's definitions, the load is of its range, its fields are calls alone, and these are the list of the seed.
-- Every element is a byte if the range is below 256. There are 3 to 10 bytes a call, and 8 more
pub record ReadLoad (seed range calls : ℕ) : Type 0 where
  pub stated : range_of (load_trace seed range calls) ≡ range
  pub fields : later_fields (load_trace seed range calls) ≡ whole (map field_for (load_calls seed calls))
  pub alone : call_fields (fields_after (load_trace seed range calls)) ≡ fields_after (load_trace seed range calls)
  pub made : calls_of (load_trace seed range calls) ≡ load_calls seed calls
  pub many : length (load_calls seed calls) ≡ calls
  pub bytes : range < 256 → list_all is_byte (load_trace seed range calls) ≡ true
  pub least : 8 + 3 * calls ≤ load_length seed range calls
  pub most : load_length seed range calls ≤ 8 + 10 * calls

abbrev pub EveryReadLoad : Type 0
EveryReadLoad = (seed range calls : ℕ) → ReadLoad seed range calls

-- No other bytes will do: those that begin with a heading, and after it have these calls and no other field, are the load of that range.
-- So `field_for` and `heading_for` need not be taken on trust
abbrev pub EveryUniqueLoad : Type 0
EveryUniqueLoad =
    (seed calls : ℕ) (trace : List ℕ) → list_all is_byte trace ≡ true → is_heading trace ≡ true → is_undamaged (later_fields trace) ≡ true
    → call_fields (fields_after trace) ≡ fields_after trace → calls_of trace ≡ load_calls seed calls
    → trace ≡ load_trace seed (range_of trace) calls

-- The player accepts a load with at least 5 answer bytes per call: what it leaves at the front of its buffer is played, all its calls
-- are answered, and the answers are those of the logbook of its list
pub record PlayedLoad (seed range calls : ℕ) (trace answers : List ℕ) : Type 0 where
  pub accepted : all_met (trace_questions trace (length answers)) ≡ true
  pub result : played_result trace (length answers) ≡ 256 * calls
  pub buffer : played_buffer trace answers ≡ in_buffer (logbook_answers range (load_calls seed calls)) answers

abbrev pub EveryPlayedLoad : Type 0
EveryPlayedLoad =
    (seed range calls : ℕ) (out answers : List ℕ) → all_met (load_questions seed range calls (length out)) ≡ true
    → 5 * calls ≤ length answers
    → PlayedLoad seed range calls (take (value_of (load_answer seed range calls (length out))) (load_output seed range calls out)) answers

-- ---- examples

-- the first steps of seed 1, and the load of seed 1, range 1 and eight calls; the first calls of seed 83, of the other kinds, and their bytes;
-- a buffer that just fits, one byte less; no calls; a seed of 0 before a range of 4, a range of 4 before a short buffer
pub record LoadExamples : Type 0 where
  pub steps : (stepped 1 ∷ stepped 270_369 ∷ stepped 67_634_689 ∷ []) ≡ (270_369 ∷ 67_634_689 ∷ 2_647_435_461 ∷ [])
  pub calls :
      load_calls 1 8
      ≡ (read 16 0x10 ∷ read 16 0x00 ∷ advance 1_304 ∷ reset ∷ read 16 0xE8 ∷ read 16 0xE8 ∷ read 16 0x8C ∷ read 16 0x58 ∷ [])
  pub others : load_calls 83 3 ≡ (trigger ∷ input 3 (neg_ℤ (pos 5_264_037)) ∷ write 16 0x64 0x6319 ∷ [])
  pub bytes :
      load_trace 83 2 3
      ≡ (0x00 ∷ 0x05 ∷ 0x00 ∷ 0x41 ∷ 0x33 ∷ 0x33 ∷ 0x30 ∷ 0x02
      ∷ 0x05 ∷ 0x00 ∷ 0x00
      ∷ 0x03 ∷ 0x05 ∷ 0x00 ∷ 0x03 ∷ 0x5B ∷ 0xAD ∷ 0xAF ∷ 0xFF
      ∷ 0x02 ∷ 0x07 ∷ 0x00 ∷ 0x10 ∷ 0x64 ∷ 0x00 ∷ 0x19 ∷ 0x63 ∷ 0x00 ∷ 0x00
      ∷ [])
  pub fits : load_answer 1 1 8 54 ≡ Ok 54
  pub short : load_answer 1 1 8 53 ≡ Err NoRoom
  pub empty : load_answer 1 0 0 8 ≡ Ok 8
  pub seed_first : load_answer 0 4 0 0 ≡ Err BadSeed
  pub range_next : load_answer 1 4 0 0 ≡ Err BadRange
