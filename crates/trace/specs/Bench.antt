-- Bench cases of traces, worked by hand from the rules beside them, as one table with one claim.
use Rattle.std.specs.Prelude.{ℕ, List, [], ◌∷◌, ◌++◌, ◌≡◌, pos, neg_ℤ, length, replicate, Result, Ok, Err}
use Rattle.analog.specs.Answers.{Answer}
use Rattle.analog.specs.declared.Refusal.{Refusal}
use Rattle.analog.specs.declared.Refusal.TheVariants.{BadHeading, BadField, StrayAnswer}
use Rattle.analog.specs.Bench.{AllHold}
use Rattle.pmc330_model.specs.Calls.{Call, read, write, input, advance, trigger, reset, look, clear}
use Rattle.trace.specs.Fields.{calls_of}
use Rattle.trace.specs.Play.{answer_bytes, played_result, played_buffer}
use Rattle.trace.specs.Replay.{replayed, replay_result}
use Rattle.trace.specs.declared.Replayed.{Replayed}
use Rattle.trace.specs.declared.Replayed.TheVariants.{Agree, Differs}

pub data Case : Type 0 where
  -- the calls of a trace
  calls_are : (trace : List ℕ) → List Call → Case
  -- a trace that is played: the number that C gets, and the buffer that it is lent, before and afterwards
  plays : (trace : List ℕ) (result : ℕ) (before after : List ℕ) → Case
  -- an answer as it stands in a buffer
  bytes_are : Answer → List ℕ → Case
  -- what a replay finds, and the number that C gets
  replays : (trace : List ℕ) → Result Replayed Refusal → (result : ℕ) → Case

abbrev pub Holds : Case → Type 0
Holds (calls_are trace expected) = calls_of trace ≡ expected
Holds (plays trace result before after) = (played_result trace (length before) ≡ result) × (played_buffer trace before ≡ after)
Holds (bytes_are answer expected) = answer_bytes answer ≡ expected
Holds (replays trace found result) = (replayed trace ≡ found) × (replay_result (replayed trace) ≡ result)

-- a heading: tag 00H, length 5, the bytes "A330" and the range
abbrev pub heading : (range : ℕ) → List ℕ
heading range = 0x00 ∷ 0x05 ∷ 0x00 ∷ 0x41 ∷ 0x33 ∷ 0x33 ∷ 0x30 ∷ range ∷ []

-- a trace on a board of range 1
abbrev pub on_range_1 : List ℕ → List ℕ
on_range_1 fields = heading 1 ++ fields

-- a trace that is refused: no call is answered, and the buffer stays
abbrev pub refused : (trace : List ℕ) (number room : ℕ) → Case
refused trace number room = plays trace number (replicate room 0xee) (replicate room 0xee)

-- fields of each later tag, two of 03H: the numbers in a body low byte first, and a voltage in two's complement
abbrev pub every_tag : List ℕ
every_tag =
    0x01 ∷ 0x03 ∷ 0x00 ∷ 0x10 ∷ 0x34 ∷ 0x12
    ∷ 0x02 ∷ 0x07 ∷ 0x00 ∷ 0x20 ∷ 0x34 ∷ 0x12 ∷ 0x78 ∷ 0x56 ∷ 0xbc ∷ 0x9a
    ∷ 0x03 ∷ 0x05 ∷ 0x00 ∷ 0x1f ∷ 0xfe ∷ 0xff ∷ 0xff ∷ 0xff
    ∷ 0x03 ∷ 0x05 ∷ 0x00 ∷ 0x00 ∷ 0x00 ∷ 0x00 ∷ 0x00 ∷ 0x01
    ∷ 0x04 ∷ 0x04 ∷ 0x00 ∷ 0x04 ∷ 0x03 ∷ 0x02 ∷ 0x01
    ∷ 0x05 ∷ 0x00 ∷ 0x00
    ∷ 0x06 ∷ 0x00 ∷ 0x00
    ∷ 0x07 ∷ 0x01 ∷ 0x00 ∷ 0x1f
    ∷ 0x08 ∷ 0x01 ∷ 0x00 ∷ 0x1e
    ∷ 0x09 ∷ 0x05 ∷ 0x00 ∷ 0x00 ∷ 0x00 ∷ 0x00 ∷ 0x00 ∷ 0x00
    ∷ []

abbrev pub its_calls : List Call
its_calls =
    read 16 0x1234
    ∷ write 32 0x1234 0x9abc_5678
    ∷ input 31 (neg_ℤ (pos 2))
    ∷ input 0 (pos 0x0100_0000)
    ∷ advance 0x0102_0304
    ∷ trigger
    ∷ reset
    ∷ look 31
    ∷ clear 30
    ∷ []

-- Burst single of channel 0 on new inputs, straight: writes of 10H, 04H and 24H, an advance of 64, reads of 14H, 80H and 14H
abbrev pub seven_calls : List ℕ
seven_calls =
    0x02 ∷ 0x07 ∷ 0x00 ∷ 0x10 ∷ 0x10 ∷ 0x00 ∷ 0x00 ∷ 0x00 ∷ 0x00 ∷ 0x00
    ∷ 0x02 ∷ 0x07 ∷ 0x00 ∷ 0x10 ∷ 0x04 ∷ 0x00 ∷ 0x01 ∷ 0x04 ∷ 0x00 ∷ 0x00
    ∷ 0x02 ∷ 0x07 ∷ 0x00 ∷ 0x10 ∷ 0x24 ∷ 0x00 ∷ 0x01 ∷ 0x00 ∷ 0x00 ∷ 0x00
    ∷ 0x04 ∷ 0x04 ∷ 0x00 ∷ 0x40 ∷ 0x00 ∷ 0x00 ∷ 0x00
    ∷ 0x01 ∷ 0x03 ∷ 0x00 ∷ 0x10 ∷ 0x14 ∷ 0x00
    ∷ 0x01 ∷ 0x03 ∷ 0x00 ∷ 0x10 ∷ 0x80 ∷ 0x00
    ∷ 0x01 ∷ 0x03 ∷ 0x00 ∷ 0x10 ∷ 0x14 ∷ 0x00
    ∷ []

-- number and value of each, low byte first: the store, its New bit, the code 8000H, and no New bit
abbrev pub seven_answers : List ℕ
seven_answers =
    0x00 ∷ 0x00 ∷ 0x00 ∷ 0x00 ∷ 0x00
    ∷ 0x00 ∷ 0x00 ∷ 0x00 ∷ 0x00 ∷ 0x00
    ∷ 0x00 ∷ 0x00 ∷ 0x00 ∷ 0x00 ∷ 0x00
    ∷ 0x00 ∷ 0x01 ∷ 0x00 ∷ 0x00 ∷ 0x00
    ∷ 0x00 ∷ 0x01 ∷ 0x00 ∷ 0x00 ∷ 0x00
    ∷ 0x00 ∷ 0x00 ∷ 0x80 ∷ 0x00 ∷ 0x00
    ∷ 0x00 ∷ 0x00 ∷ 0x00 ∷ 0x00 ∷ 0x00
    ∷ []

-- The same store, then a look, a clear and a look: the code 8000H and New, and the code alone
abbrev pub look_clear_look : List ℕ
look_clear_look =
    0x02 ∷ 0x07 ∷ 0x00 ∷ 0x10 ∷ 0x04 ∷ 0x00 ∷ 0x01 ∷ 0x04 ∷ 0x00 ∷ 0x00
    ∷ 0x02 ∷ 0x07 ∷ 0x00 ∷ 0x10 ∷ 0x24 ∷ 0x00 ∷ 0x01 ∷ 0x00 ∷ 0x00 ∷ 0x00
    ∷ 0x04 ∷ 0x04 ∷ 0x00 ∷ 0x40 ∷ 0x00 ∷ 0x00 ∷ 0x00
    ∷ 0x07 ∷ 0x01 ∷ 0x00 ∷ 0x00
    ∷ 0x08 ∷ 0x01 ∷ 0x00 ∷ 0x00
    ∷ 0x07 ∷ 0x01 ∷ 0x00 ∷ 0x00
    ∷ []

abbrev pub six_answers : List ℕ
six_answers =
    0x00 ∷ 0x00 ∷ 0x00 ∷ 0x00 ∷ 0x00
    ∷ 0x00 ∷ 0x00 ∷ 0x00 ∷ 0x00 ∷ 0x00
    ∷ 0x00 ∷ 0x01 ∷ 0x00 ∷ 0x00 ∷ 0x00
    ∷ 0x00 ∷ 0x00 ∷ 0x80 ∷ 0x01 ∷ 0x00
    ∷ 0x00 ∷ 0x00 ∷ 0x00 ∷ 0x00 ∷ 0x00
    ∷ 0x00 ∷ 0x00 ∷ 0x80 ∷ 0x00 ∷ 0x00
    ∷ []

-- a look at slot 32 is refused with 22, and the trace goes on: a read of 10H is answered 0
abbrev pub refused_call : List ℕ
refused_call = 0x07 ∷ 0x01 ∷ 0x00 ∷ 0x20 ∷ 0x01 ∷ 0x03 ∷ 0x00 ∷ 0x10 ∷ 0x10 ∷ 0x00 ∷ []

-- a read of 10H on a new board, whose answer is number 0 and value 0; a recorded answer: its number, and two bytes of its value
abbrev pub a_read : List ℕ
a_read = 0x01 ∷ 0x03 ∷ 0x00 ∷ 0x10 ∷ 0x10 ∷ 0x00 ∷ []

abbrev pub recorded : (number first third : ℕ) → List ℕ
recorded number first third = 0x09 ∷ 0x05 ∷ 0x00 ∷ number ∷ first ∷ 0x00 ∷ third ∷ 0x00 ∷ []

-- the table
abbrev pub cases : List Case
cases =
    -- 256 × the calls answered; a byte past the answers stays
    plays (on_range_1 seven_calls) 0x700 (replicate 36 0xee) (seven_answers ++ 0xee ∷ [])
    ∷ plays (on_range_1 look_clear_look) 0x600 (replicate 30 0xee) six_answers
    ∷ calls_are (on_range_1 every_tag) its_calls
    -- an answer: its number in a byte, its value in four, low byte first
    ∷ bytes_are (Ok 0x1234_fffe) (0x00 ∷ 0xfe ∷ 0xff ∷ 0x34 ∷ 0x12 ∷ [])
    ∷ bytes_are (Err StrayAnswer) (0x1a ∷ 0x00 ∷ 0x00 ∷ 0x00 ∷ 0x00 ∷ [])
    ∷ plays (on_range_1 refused_call) 0x200 (replicate 10 0xee) (0x16 ∷ 0x00 ∷ 0x00 ∷ 0x00 ∷ 0x00 ∷ replicate 5 0x00)
    -- recorded answers are passed over
    ∷ plays (on_range_1 (a_read ++ recorded 6 1 0)) 0x100 (replicate 5 0xee) (replicate 5 0x00)
    -- the heading: its tag, length and fixed bytes, a range of at most 3, whole
    ∷ plays (heading 0) 0 [] []
    ∷ plays (heading 3) 0 [] []
    ∷ refused (heading 4) 18 5
    ∷ refused [] 18 5
    ∷ refused (0x01 ∷ 0x05 ∷ 0x00 ∷ 0x41 ∷ 0x33 ∷ 0x33 ∷ 0x30 ∷ 0x01 ∷ []) 18 5
    ∷ refused (0x00 ∷ 0x06 ∷ 0x00 ∷ 0x41 ∷ 0x33 ∷ 0x33 ∷ 0x30 ∷ 0x01 ∷ 0x00 ∷ []) 18 5
    ∷ refused (0x00 ∷ 0x05 ∷ 0x00 ∷ 0x41 ∷ 0x33 ∷ 0x33 ∷ 0x31 ∷ 0x01 ∷ []) 18 5
    ∷ refused (0x00 ∷ 0x05 ∷ 0x00 ∷ 0x41 ∷ 0x33 ∷ 0x33 ∷ 0x30 ∷ []) 18 5
    -- a later field: a call's tag or 09H, its length, whole
    ∷ refused (on_range_1 (heading 1)) 19 5
    ∷ refused (on_range_1 (0x0a ∷ 0x00 ∷ 0x00 ∷ [])) 19 5
    ∷ refused (on_range_1 (0x05 ∷ 0x01 ∷ 0x00 ∷ 0x00 ∷ [])) 19 5
    ∷ refused (on_range_1 (0x07 ∷ 0x01 ∷ 0x00 ∷ [])) 19 5
    ∷ refused (on_range_1 (0x05 ∷ 0x00 ∷ [])) 19 5
    -- a recorded answer follows a call; 19 is asked before, 20 after
    ∷ refused (on_range_1 (recorded 0 0 0)) 26 5
    ∷ refused (on_range_1 (a_read ++ recorded 0 0 0 ++ recorded 0 0 0)) 26 4
    ∷ refused (on_range_1 (recorded 0 0 0 ++ 0x0a ∷ [])) 19 5
    -- five bytes of room a call
    ∷ refused (on_range_1 a_read) 20 4
    -- A replay compares the number and the low 16 bits of the value. It gives the index of the first call that differs, and how
    -- many were compared: number + 2^8 × index + 2^32 × count
    ∷ replays (on_range_1 (a_read ++ recorded 0 0 1)) (Ok (Agree 1)) 0x1_0000_0000
    ∷ replays (on_range_1 (a_read ++ recorded 6 0 0)) (Ok (Differs 1 1)) 0x1_0000_0100
    ∷ replays (on_range_1 (a_read ++ a_read ++ recorded 0 0 0 ++ a_read ++ recorded 0 1 0)) (Ok (Differs 3 2)) 0x2_0000_0300
    ∷ replays (heading 4) (Err BadHeading) 18
    ∷ replays (on_range_1 (0x0a ∷ [])) (Err BadField) 19
    ∷ replays (on_range_1 (recorded 0 0 0)) (Err StrayAnswer) 26
    ∷ []

-- the claim that `trace_cases` proves
abbrev pub TraceCases : Type 0
TraceCases = AllHold Holds cases
