-- What the player answers, and what it leaves in the answer buffer (data sheet, "Traces").
use Rattle.std.specs.Prelude.{ℕ, ◌+◌, ◌*◌, ◌/◌, ◌%◌, Bool, true, if◌then◌else◌, ◌&&◌, List, [], ◌∷◌, ◌++◌, ◌==◌, nat_le, length, drop}
use Rattle.analog.specs.Answers.{Question, question, first_no, number_of, value_of, Answer, answered}
use Rattle.pmc330_model.specs.Board.{answers_of}
use Rattle.trace.specs.Grammar.{is_call_tag, is_answer_tag}
use Rattle.trace.specs.Fields.{Field, tag_of, is_heading, range_of, later_fields, is_undamaged, fields_after, calls_of}
use Rattle.analog.specs.declared.Refusal.TheVariants.{BadHeading, BadField, StrayAnswer, ShortBuffer}

-- the field before each recorded answer among fields is a call; the tag of the field before them all is given
unfoldable pub answers_follow : (before : ℕ) → List Field → Bool
answers_follow before [] = true
answers_follow before (field ∷ fields) =
    (if is_answer_tag field.tag then is_call_tag before else true) && answers_follow field.tag fields

-- 18: the trace has at most 16,777,216 bytes and begins with the heading, whose range is 0 to 3
-- 19: every later field is whole, with its tag's length, and is a call or a recorded answer
-- 26: the field before each recorded answer is a call
abbrev pub field_questions : (trace : List ℕ) → List Question
field_questions trace =
    question BadHeading (nat_le (length trace) 16_777_216 && is_heading trace)
    ∷ question BadField (is_undamaged (later_fields trace))
    ∷ question StrayAnswer (answers_follow (tag_of trace) (fields_after trace))
    ∷ []

-- 20: the answer buffer has at least 5 bytes per call
abbrev pub trace_questions : (trace : List ℕ) (room : ℕ) → List Question
trace_questions trace room = field_questions trace ++ (question ShortBuffer (nat_le (5 * length (calls_of trace)) room) ∷ [])

-- what the player answers: how many calls, or the first question that is answered with no
unfoldable pub played : (trace : List ℕ) (room : ℕ) → Answer
played trace room = answered (trace_questions trace room) (length (calls_of trace))

unfoldable pub trace_number : (trace : List ℕ) (room : ℕ) → ℕ
trace_number trace room = first_no (trace_questions trace room)

-- the five bytes of an answer: its number in one, its value in four, low byte first
abbrev pub answer_bytes : Answer → List ℕ
answer_bytes answer =
    number_of answer
    ∷ value_of answer % 256
    ∷ value_of answer / 256 % 256
    ∷ value_of answer / 65_536 % 256
    ∷ value_of answer / 16_777_216 % 256
    ∷ []

unfoldable pub bytes_of : List Answer → List ℕ
bytes_of [] = []
bytes_of (answer ∷ answers) = answer_bytes answer ++ bytes_of answers

-- answers one after the other from the front of the buffer; the bytes beyond stay
unfoldable pub in_buffer : List Answer → (buffer : List ℕ) → List ℕ
in_buffer answers buffer = bytes_of answers ++ drop (length (bytes_of answers)) buffer

-- what C gets: 256 × calls answered + number
unfoldable pub calls_answered : (trace : List ℕ) (room : ℕ) → ℕ
calls_answered trace room = if trace_number trace room == 0 then length (calls_of trace) else 0

abbrev pub played_result : (trace : List ℕ) (room : ℕ) → ℕ
played_result trace room = 256 * calls_answered trace room + trace_number trace room

-- the answer buffer: as it was where the trace is refused, else with the answers of its calls on a new board of its range.
-- A call that is refused has its answer too, and the calls after it are made
unfoldable pub played_buffer : (trace buffer : List ℕ) → List ℕ
played_buffer trace buffer =
    if trace_number trace (length buffer) == 0
    then in_buffer (answers_of (range_of trace) (calls_of trace)) buffer
    else buffer
