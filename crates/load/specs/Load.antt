-- A load: a trace of calls made from a seed (data sheet, "Loads").
use Rattle.std.specs.Prelude.{ℕ, zero, suc, ◌-◌, ◌*◌, ◌/◌, ◌%◌, Bool, if◌then◌else◌, not, ◌&&◌, List, [], ◌∷◌, ◌++◌, map, ◌==◌, nat_lt, nat_le, ℤ, pos, negsuc, ◌-ℤ◌, length, drop}
use Rattle.analog.specs.Answers.{Question, question, all_met, answered, Answer}
use Rattle.pmc330_model.specs.Calls.{Call, read, write, input, advance, trigger, reset, look, clear}
use Rattle.trace.specs.Fields.{Field, bytes_of_fields, fixed_bytes}
use Rattle.load.specs.Bits.{stepped}
use Rattle.analog.specs.declared.Refusal.TheVariants.{BadSeed, BadRange, NoRoom}

-- ---- the calls

-- the voltage of an input, in uV: -10,000,000 to 10,000,000
abbrev pub voltage_of : (q : ℕ) → ℤ
voltage_of q = pos (q % 20_000_001) -ℤ pos 10_000_000

-- the offset of a read or a write, whose width is 16
abbrev pub offset_of : (q : ℕ) → ℕ
offset_of q = q % 64 * 4

-- a pick is 0 to 7: 0 to 2 read, 3 write, 4 input, 5 advance, 6 trigger, 7 reset
unfoldable pub call_picked : (pick q : ℕ) → Call
call_picked pick q =
    if nat_le pick 2 then read 16 (offset_of q)
    else (if pick == 3 then write 16 (offset_of q) (q % 65_536)
    else (if pick == 4 then input (q % 32) (voltage_of q)
    else (if pick == 5 then advance (q % 4_096)
    else (if pick == 6 then trigger else reset))))

-- x modulo 8 picks the call, and its numbers are made from q, the whole part of x / 8
abbrev pub call_from : (x : ℕ) → Call
call_from x = call_picked (x % 8) (x / 8)

-- the list of calls: each step of x gives one
unfoldable pub load_calls : (x calls : ℕ) → List Call
load_calls x zero = []
load_calls x (suc calls) = call_from (stepped x) ∷ load_calls (stepped x) calls

-- ---- the trace

-- a number in so many bytes, low byte first
unfoldable pub low_bytes : (size n : ℕ) → List ℕ
low_bytes zero n = []
low_bytes (suc size) n = n % 256 ∷ low_bytes size (n / 256)

-- what each place of a trace holds
abbrev pub is_byte : ℕ → Bool
is_byte n = nat_lt n 256

-- two's complement in 32 bits
abbrev pub unsigned_of : ℤ → ℕ
unsigned_of (pos n) = n
unsigned_of (negsuc n) = 0xffff_ffff - n

abbrev pub field : (tag : ℕ) (body : List ℕ) → Field
field tag body = record { tag = tag; body = body }

-- the field of a call, by the grammar; that the player reads the load's calls from these fields is `made` in Sentences, and that no
-- others will do is `EveryUniqueLoad`. A load has no look and no clear
abbrev pub field_for : Call → Field
field_for (read width offset) = field 0x01 (low_bytes 1 width ++ low_bytes 2 offset)
field_for (write width offset value) = field 0x02 (low_bytes 1 width ++ low_bytes 2 offset ++ low_bytes 4 value)
field_for (input channel microvolts) = field 0x03 (low_bytes 1 channel ++ low_bytes 4 (unsigned_of microvolts))
field_for (advance ticks) = field 0x04 (low_bytes 4 ticks)
field_for trigger = field 0x05 []
field_for reset = field 0x06 []
field_for (look slot) = field 0x07 (low_bytes 1 slot)
field_for (clear slot) = field 0x08 (low_bytes 1 slot)

-- the heading: the fixed bytes, then the range. A range above 3 is refused, so it is one byte
abbrev pub heading_for : (range : ℕ) → Field
heading_for range = field 0x00 (fixed_bytes ++ (range ∷ []))

-- the trace, of a range and a number of calls
unfoldable pub load_trace : (seed range calls : ℕ) → List ℕ
load_trace seed range calls = bytes_of_fields (heading_for range ∷ map field_for (load_calls seed calls))

-- how many bytes it has
abbrev pub load_length : (seed range calls : ℕ) → ℕ
load_length seed range calls = length (load_trace seed range calls)

-- ---- the call

-- 27, the seed is not 0; 14, the range is at most 3; 28, the buffer has room for the trace, and it is no longer than a trace may be
abbrev pub load_questions : (seed range calls room : ℕ) → List Question
load_questions seed range calls room =
    question BadSeed (not (seed == 0))
    ∷ question BadRange (nat_le range 3)
    ∷ question NoRoom (nat_le (load_length seed range calls) room && nat_le (load_length seed range calls) 16_777_216)
    ∷ []

-- the value is the length of the trace
unfoldable pub load_answer : (seed range calls room : ℕ) → Answer
load_answer seed range calls room = answered (load_questions seed range calls room) (load_length seed range calls)

-- the buffer afterwards: a refusal leaves it as it was, an accepted load the bytes past the trace
unfoldable pub load_output : (seed range calls : ℕ) (out : List ℕ) → List ℕ
load_output seed range calls out =
    if all_met (load_questions seed range calls (length out))
    then load_trace seed range calls ++ drop (load_length seed range calls) out
    else out
