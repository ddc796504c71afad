-- The sentences of the data sheet on traces. They are proved in proofs/Sentences.antt (`traces_refused`, `traces_accepted`,
-- `plays_packed`, `walks_enough`), proofs/PassedOver.antt (`answers_passed_over`) and proofs/Replays.antt (`replays_refused`, `replays_answered`,
-- `replays_packed`).
use Rattle.std.specs.Prelude.{ℕ, ◌+◌, ◌*◌, ◌/◌, ◌%◌, ◌<◌, Bool, true, false, if◌then◌else◌, List, [], ◌∷◌, ◌++◌, ◌⊎◌, ◌≡◌, ◌==◌, length, take, Ok, Err}
use Rattle.analog.specs.Answers.{number_of_refusal, first_no, all_met, asked, packed}
use Rattle.analog.specs.declared.Refusal.{Refusal}
use Rattle.pmc330_model.specs.Logbook.{logbook_of, logbook_answers, logged_answer}
use Rattle.trace.specs.Grammar.{is_call_tag, is_answer_tag}
use Rattle.trace.specs.Fields.{Field, bytes_of_fields, range_of, first_field, after_field, damaged, whole, in_front, is_later_field, fields_in, fields_of, later_fields, fields_after, call_fields, answer_fields, call_in, calls_among, calls_of, without_answers}
use Rattle.trace.specs.Play.{field_questions, trace_questions, in_buffer, played, played_result, played_buffer}
use Rattle.trace.specs.Replay.{is_equal, replayed, replay_number, replay_index, replay_count, replay_result}
use Rattle.trace.specs.declared.Replayed.TheVariants.{Agree, Differs}

-- Sentence 1, of a trace: where 18, 19, 26 or 20 is answered with no, the result is the number of the first that is, with no call
-- answered, and the answer buffer stays as it was
pub record RefusedTrace (trace buffer : List ℕ) : Type 0 where
  pub result : played_result trace (length buffer) ≡ first_no (trace_questions trace (length buffer))
  pub unchanged : played_buffer trace buffer ≡ buffer

abbrev pub EveryRefusedTrace : Type 0
EveryRefusedTrace =
    (trace buffer : List ℕ) → all_met (trace_questions trace (length buffer)) ≡ false → RefusedTrace trace buffer

-- and otherwise it is accepted: the result is 256 × the calls of the trace, with number 0.
-- Sentence 2: the answers in the buffer are those of the logbook of its calls
pub record AcceptedTrace (trace buffer : List ℕ) : Type 0 where
  pub result : played_result trace (length buffer) ≡ 256 * length (calls_of trace)
  pub answers : played_buffer trace buffer ≡ in_buffer (logbook_answers (range_of trace) (calls_of trace)) buffer

abbrev pub EveryAcceptedTrace : Type 0
EveryAcceptedTrace =
    (trace buffer : List ℕ) → all_met (trace_questions trace (length buffer)) ≡ true → AcceptedTrace trace buffer

-- The walk over the fields has as many turns as it needs: any number of them above that of the bytes gives the same.
-- So, with no bound: no bytes have no fields, a later field stands before those after it, and anything else is damaged
pub record WalkEnough (bytes : List ℕ) : Type 0 where
  pub turns : (n : ℕ) → length bytes < n → fields_in n bytes ≡ fields_of bytes
  pub ended : length bytes ≡ 0 → fields_of bytes ≡ whole []
  pub next :
      0 < length bytes → is_later_field bytes ≡ true
      → fields_of bytes ≡ in_front (first_field bytes) (fields_of (after_field bytes))
  pub other : 0 < length bytes → is_later_field bytes ≡ false → fields_of bytes ≡ damaged

abbrev pub EveryWalk : Type 0
EveryWalk = (bytes : List ℕ) → WalkEnough bytes

-- The player passes over recorded answers. Where 18, 19 and 26 are met, the trace is its heading and the bytes of its fields;
-- the trace without its recorded answers has its calls and no other field, and meets these questions too; and the player makes
-- the same of both
pub record PassedOver (trace buffer : List ℕ) : Type 0 where
  pub bytes : take 8 trace ++ bytes_of_fields (fields_after trace) ≡ trace
  pub calls : later_fields (without_answers trace) ≡ whole (call_fields (fields_after trace))
  pub met : all_met (field_questions (without_answers trace)) ≡ true
  pub result : played_result trace (length buffer) ≡ played_result (without_answers trace) (length buffer)
  pub answers : played_buffer trace buffer ≡ played_buffer (without_answers trace) buffer

abbrev pub EveryPassedOver : Type 0
EveryPassedOver = (trace buffer : List ℕ) → all_met (field_questions trace) ≡ true → PassedOver trace buffer

-- The player's answer and its result as one number say the same: 256 × calls answered + number
abbrev pub EveryPackedPlay : Type 0
EveryPackedPlay = (trace : List ℕ) (room : ℕ) → packed (played trace room) ≡ played_result trace room

-- A replay: where 18, 19 or 26 is answered with no, it is refused by the first that is, with its number
pub record RefusedReplay (trace : List ℕ) : Type 0 where
  pub refusal : Refusal
  pub first : asked (field_questions trace) ≡ Err refusal
  pub result : replayed trace ≡ Err refusal
  pub number : number_of_refusal refusal ≡ first_no (field_questions trace)

abbrev pub EveryRefusedReplay : Type 0
EveryRefusedReplay = (trace : List ℕ) → all_met (field_questions trace) ≡ false → RefusedReplay trace

-- a call of a trace that has an answer recorded, by the fields around it
pub record RecordedCall (fields : List Field) : Type 0 where
  pub before : List Field
  pub call : Field
  pub answer : Field
  pub after : List Field
  pub place : fields ≡ before ++ (call ∷ answer ∷ after)
  pub call_tag : is_call_tag call.tag ≡ true
  pub answer_tag : is_answer_tag answer.tag ≡ true

-- the index of the call, from 1, and the count of recorded answers up to and including its own
abbrev pub index_of : {fields : List Field} → RecordedCall fields → ℕ
index_of recorded = length (calls_among recorded.before) + 1

abbrev pub count_to : {fields : List Field} → RecordedCall fields → ℕ
count_to recorded = length (answer_fields recorded.before) + 1

-- the answer of the logbook of the calls before it is equal to the recorded one
abbrev pub is_as_recorded : (range : ℕ) → {fields : List Field} → RecordedCall fields → Bool
is_as_recorded range recorded =
    is_equal (logged_answer (logbook_of range (calls_among recorded.before)) (call_in recorded.call)) recorded.answer.body

-- all agree, or there is a first call whose answer is not equal to the recorded one: those before it are equal
abbrev pub AllAgree : (range : ℕ) → List Field → Type 0
AllAgree range fields = (recorded : RecordedCall fields) → is_as_recorded range recorded ≡ true

pub record FirstDiffers (range : ℕ) (fields : List Field) : Type 0 where
  pub recorded : RecordedCall fields
  pub unequal : is_as_recorded range recorded ≡ false
  pub equal_before : (earlier : RecordedCall fields) → index_of earlier < index_of recorded → is_as_recorded range earlier ≡ true

-- otherwise one of the two holds, and the replay says which: with the count of all recorded answers, or with that call's index and
-- the count up to and including its own
pub record AnsweredReplay (trace : List ℕ) : Type 0 where
  pub either : AllAgree (range_of trace) (fields_after trace) ⊎ FirstDiffers (range_of trace) (fields_after trace)
  pub agree :
      AllAgree (range_of trace) (fields_after trace) → replayed trace ≡ Ok (Agree (length (answer_fields (fields_after trace))))
  pub differs :
      (first : FirstDiffers (range_of trace) (fields_after trace))
      → replayed trace ≡ Ok (Differs (index_of first.recorded) (count_to first.recorded))

abbrev pub EveryReplay : Type 0
EveryReplay = (trace : List ℕ) → all_met (field_questions trace) ≡ true → AnsweredReplay trace

-- number, index and count can be read back from the one number that C gets, and say which case it is: refused where the number
-- is not 0, by the one refusal that has it; else all agree where the index is 0
pub record PackedReplay (trace : List ℕ) : Type 0 where
  pub number : replay_result (replayed trace) % 256 ≡ replay_number (replayed trace)
  pub index : replay_result (replayed trace) / 256 % 16_777_216 ≡ replay_index (replayed trace)
  pub count : replay_result (replayed trace) / 4_294_967_296 ≡ replay_count (replayed trace)
  pub numbered : 0 < replay_number (replayed trace) → (refusal : Refusal) × (replay_number (replayed trace) ≡ number_of_refusal refusal)
  pub refused : (refusal : Refusal) → replay_number (replayed trace) ≡ number_of_refusal refusal → replayed trace ≡ Err refusal
  pub found :
      replay_number (replayed trace) ≡ 0
      → replayed trace
      ≡ Ok (if replay_index (replayed trace) == 0
      then Agree (replay_count (replayed trace))
      else Differs (replay_index (replayed trace)) (replay_count (replayed trace)))

abbrev pub EveryPackedReplay : Type 0
EveryPackedReplay = (trace : List ℕ) → PackedReplay trace
