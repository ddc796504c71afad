-- The laws of replaying: what a turn of the replay leaves.
use mathlib.Core.Bool.{Bool, true, false, cond}
use mathlib.Core.List.{List, [], ◌∷◌}
use mathlib.Core.Path.{◌≡◌, refl, sym, ap, ◌∙◌}
use Prim.Native.Nat.{ℕ, ◌+◌, ◌%◌}
use lib.Dec.{eqb}
use borrow.Author.Tests.{eq-eqb}
use Rattle.std.specs.Result.{result_unwrap_or}
use native.Mathlib.Nat.{add-zero}
use native.Mathlib.Numerals.{add-one}
use lib.ListN.{get_or, drop}
use lib.Seq.{get_or-drop, drop-drop}
use Rattle.analog.specs.Answers.{Answer, first_no, asked, number_of}
use Rattle.analog.specs.declared.Refusal.{Refusal}
use Rattle.analog.proofs.AnswerLaws.{none_asked}
use Rattle.pmc330_model.specs.Board.{board_call, new_board, answers_from, answers_of}
use Rattle.pmc330_model.specs.declared.Board.{Board}
use Rattle.pmc330_model.specs.declared.Reply.{Reply}
use Rattle.trace.specs.Grammar.{is_call_tag}
use Rattle.trace.specs.Fields.{Field, range_of, fields_after, call_in, calls_among, calls_of}
use Rattle.trace.specs.Replay.{recorded_number, recorded_value, is_equal, Comparison, answer_to, comparisons_from, first_difference, unless_refused, replayed}
use Rattle.trace.specs.Play.{field_questions}
use Rattle.trace.specs.declared.Replayed.{Replayed}
use Rattle.trace.specs.declared.Replayed.TheVariants.{Agree, Differs}
use Rattle.trace.proofs.FieldLaws.{call_front, other_front}
use Rattle.std.specs.Prelude.{Result, Ok, Err, ⊤}

-- the answers of the calls of a trace from a board on, and what the replay finds
abbrev answers_in : (trace : List ℕ) (start : Board) → List Answer
answers_in trace start = answers_from start (calls_of trace)

abbrev finds_on : (trace : List ℕ) (start : Board) → Replayed
finds_on trace start = first_difference 0 (comparisons_from 0 (answers_in trace start) (fields_after trace))

-- an answer and a body of the same number are equal by the low 16 bits of their values
pub equal_by_values :
    (answer : Answer) (body : List ℕ) → number_of answer ≡ recorded_number body → (value recorded : ℕ) → value ≡ result_unwrap_or answer 0 → recorded ≡ recorded_value body
    → eqb (value % 65_536) (recorded % 65_536) ≡ is_equal answer body
equal_by_values (Ok value) body number v r e f = rw (eq-eqb _ _ number, e, f) refl
equal_by_values (Err refusal) body number v r e f = rw (eq-eqb _ _ number, e, f) refl

-- where the replay stands: the comparisons that are left find what all of them find
pub record Replaying (trace : List ℕ) (start board : Board) (rest : List Field) (index count : ℕ) (answer : Answer) : Type 0 where
  pub left : answers_from board (calls_among rest) ≡ drop index (answers_in trace start)
  pub last : answer ≡ answer_to (answers_in trace start) index
  pub found : first_difference count (comparisons_from index (answers_in trace start) rest) ≡ finds_on trace start

pub replay_opens : (trace : List ℕ) (start : Board) → Replaying trace start start (fields_after trace) 0 0 (Ok 0)
replay_opens trace start = record { left = refl; last = refl; found = refl }

-- the next of the answers that are left
next_answer : (answers later : List Answer) (answer : Answer) (index : ℕ) → answer ∷ later ≡ drop index answers → (answer ≡ answer_to answers (index + 1)) × (later ≡ drop (index + 1) answers)
next_answer answers later answer index e = (
  ap (λ (l : List Answer). get_or l 0 (Ok 0)) e
      ∙ get_or-drop index answers 0 (Ok 0)
      ∙ ap (λ (n : ℕ). get_or answers n (Ok 0)) (add-zero index)
      ∙ sym (ap (answer_to answers) (add-one index)),
  ap (drop 1) e ∙ drop-drop 1 index answers,
)

module _
    (trace : List ℕ) (start board : Board) (field : Field) (later : List Field) (index count : ℕ) (answer : Answer)
    (p : Replaying trace start board (field ∷ later) index count answer)
  where
    abbrev comparison : Comparison
    comparison = record { index = index; answer = answer_to (answers_in trace start) index; body = field.body }

    -- a call is made
    pub makes :
        is_call_tag field.tag ≡ true → (reply : Reply) → reply ≡ board_call board (call_in field)
        → Replaying trace start reply.board later (index + 1) count reply.answer
    unfolding answers_from comparisons_from
    makes made reply r =
        let calls = call_front field later made in
        let answered : reply.answer ∷ answers_from reply.board (calls_among later) ≡ drop index (answers_in trace start) =
        ap (λ (s : Reply). s.answer ∷ answers_from s.board (calls_among later)) r ∙ sym (ap (answers_from board) calls) ∙ p.left in
        let next = next_answer (answers_in trace start) (answers_from reply.board (calls_among later)) reply.answer index answered in
        record {
          left = next.1;
          last = next.0;
          found =
              sym (ap (λ (t : Bool). first_difference count (cond t (comparisons_from (index + 1) (answers_in trace start) later) (comparison ∷ comparisons_from index (answers_in trace start) later))) made)
              ∙ p.found;
        }

    -- a recorded answer is compared with that of the last call
    compared :
        is_call_tag field.tag ≡ false
        → cond (is_equal answer field.body) (first_difference (count + 1) (comparisons_from index (answers_in trace start) later)) (Differs index (count + 1))
        ≡ finds_on trace start
    unfolding comparisons_from first_difference
    compared other =
        ap (λ (a : Answer). cond (is_equal a field.body) (first_difference (count + 1) (comparisons_from index (answers_in trace start) later)) (Differs index (count + 1))) p.last
        ∙ sym (ap (λ (t : Bool). first_difference count (cond t (comparisons_from (index + 1) (answers_in trace start) later) (comparison ∷ comparisons_from index (answers_in trace start) later))) other)
        ∙ p.found

    pub agrees :
        is_call_tag field.tag ≡ false → is_equal answer field.body ≡ true
        → Replaying trace start board later index (count + 1) answer
    agrees other equal =
        record {
          left = sym (ap (answers_from board) (other_front field later other)) ∙ p.left;
          last = p.last;
          found = sym (ap (λ (t : Bool). cond t (first_difference (count + 1) (comparisons_from index (answers_in trace start) later)) (Differs index (count + 1))) equal) ∙ compared other;
        }

    pub differs : is_call_tag field.tag ≡ false → is_equal answer field.body ≡ false → Differs index (count + 1) ≡ finds_on trace start
    differs other unequal =
        sym (ap (λ (t : Bool). cond t (first_difference (count + 1) (comparisons_from index (answers_in trace start) later)) (Differs index (count + 1))) unequal)
        ∙ compared other

-- at the end
pub all_agree :
    (trace : List ℕ) (start board : Board) (index count : ℕ) (answer : Answer)
    → Replaying trace start board [] index count answer → Agree count ≡ finds_on trace start
unfolding comparisons_from first_difference
all_agree trace start board index count answer p = p.found

-- ---- what a replay gives

pub replay_refused : (trace : List ℕ) (refusal : Refusal) → asked (field_questions trace) ≡ Err refusal → replayed trace ≡ Err refusal
unfolding replayed
replay_refused trace refusal e =
    ap (λ (r : Result ⊤ Refusal). unless_refused r (first_difference 0 (comparisons_from 0 (answers_of (range_of trace) (calls_of trace)) (fields_after trace)))) e

pub replay_runs : (trace : List ℕ) → first_no (field_questions trace) ≡ 0 → replayed trace ≡ Ok (finds_on trace (new_board (range_of trace)))
unfolding replayed
replay_runs trace none =
    ap (λ (r : Result ⊤ Refusal). unless_refused r (first_difference 0 (comparisons_from 0 (answers_of (range_of trace) (calls_of trace)) (fields_after trace))))
    (none_asked (field_questions trace) none)
