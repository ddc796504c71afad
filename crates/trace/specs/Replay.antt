-- A replay: all recorded answers agree, or the first call whose answer is not the recorded one (data sheet, "Recordings and replays").
use Rattle.std.specs.Prelude.{ℕ, zero, suc, ◌+◌, ◌*◌, ◌%◌, Bool, if◌then◌else◌, ◌&&◌, List, [], ◌∷◌, ◌==◌, get_or, Result, Ok, Err, ⊤}
use Rattle.analog.specs.Answers.{number_of_refusal, asked, number_of, value_of, Answer}
use Rattle.analog.specs.declared.Refusal.{Refusal}
use Rattle.pmc330_model.specs.Board.{answers_of}
use Rattle.trace.specs.Grammar.{is_call_tag, number_at}
use Rattle.trace.specs.Fields.{Field, range_of, fields_after, calls_of}
use Rattle.trace.specs.Play.{field_questions}
use Rattle.trace.specs.declared.Replayed.{Replayed}
use Rattle.trace.specs.declared.Replayed.TheVariants.{Agree, Differs}

-- what the body of a recorded answer holds: a number in one byte, a value in four
abbrev pub recorded_number : (body : List ℕ) → ℕ
recorded_number body = number_at 0 1 body

abbrev pub recorded_value : (body : List ℕ) → ℕ
recorded_value body = number_at 1 4 body

-- equal means the same number and the same low 16 bits of value
abbrev pub is_equal : Answer → (body : List ℕ) → Bool
is_equal answer body =
    number_of answer == recorded_number body && value_of answer % 65_536 == recorded_value body % 65_536

-- a comparison: the index of a call, from 1, its answer, and what is recorded of it
pub record Comparison : Type 0 where
  pub index : ℕ
  pub answer : Answer
  pub body : List ℕ

-- the answer to the call of an index, from 1; question 26 lets no recorded answer through before the first call
abbrev pub answer_to : List Answer → (index : ℕ) → Answer
answer_to answers zero = Ok 0
answer_to answers (suc n) = get_or answers n (Ok 0)

-- the comparisons that fields ask for, with so many calls before them: one for each recorded answer, since question 19 lets
-- nothing else through that is no call
unfoldable pub comparisons_from : (index : ℕ) → List Answer → List Field → List Comparison
comparisons_from index answers [] = []
comparisons_from index answers (field ∷ fields) =
    if is_call_tag field.tag then comparisons_from (index + 1) answers fields
    else record { index = index; answer = answer_to answers index; body = field.body } ∷ comparisons_from index answers fields

-- the first that is not equal, with the count of recorded answers up to and including its own; so many were equal before
unfoldable pub first_difference : (count : ℕ) → List Comparison → Replayed
first_difference count [] = Agree count
first_difference count (next ∷ later) =
    if is_equal next.answer next.body then first_difference (count + 1) later else Differs next.index (count + 1)

-- a finding where no question is answered with no, else the first that is
abbrev pub unless_refused : Result ⊤ Refusal → Replayed → Result Replayed Refusal
unless_refused (Ok all) found = Ok found
unless_refused (Err refusal) found = Err refusal

-- a replay makes the calls on a new board of the trace's range. It has no answer buffer, so no question 20
unfoldable pub replayed : (trace : List ℕ) → Result Replayed Refusal
replayed trace =
    unless_refused (asked (field_questions trace))
    (first_difference 0 (comparisons_from 0 (answers_of (range_of trace) (calls_of trace)) (fields_after trace)))

-- number, index and count of each case
abbrev pub replay_number : Result Replayed Refusal → ℕ
replay_number (Ok found) = 0
replay_number (Err refusal) = number_of_refusal refusal

abbrev pub replay_index : Result Replayed Refusal → ℕ
replay_index (Ok (Agree count)) = 0
replay_index (Ok (Differs index count)) = index
replay_index (Err refusal) = 0

abbrev pub replay_count : Result Replayed Refusal → ℕ
replay_count (Ok (Agree count)) = count
replay_count (Ok (Differs index count)) = count
replay_count (Err refusal) = 0

-- as C gets it: number + 2^8 × index + 2^32 × count
abbrev pub replay_result : Result Replayed Refusal → ℕ
replay_result replay = replay_number replay + 256 * replay_index replay + 4_294_967_296 * replay_count replay
