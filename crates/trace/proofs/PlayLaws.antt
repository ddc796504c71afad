-- The laws of playing: what a turn of the player leaves, and the number of a trace.
use mathlib.Core.Bool.{Bool, true, false, cond, ◌&&◌}
use mathlib.Core.List.{List, [], ◌∷◌, ◌++◌, append_assoc, append-nil}
use mathlib.Core.Path.{◌≡◌, refl, sym, ap, ap₂, subst, ◌∙◌}
use Prim.Native.Nat.{ℕ, ◌+◌, ◌-◌, ◌*◌, ◌≤◌, ◌<◌}
use native.Mathlib.Omega.{arith}
use lib.Dec.{eqb, leb}
use lib.ListN.{length, take, drop, length-append, length-drop, drop_of_length-le, take-append-drop}
use lib.Seq.{take_all, take_at, drop_at, length-take-le, drop-drop}
use borrow.Author.Tests.{le-leb, lt-leb, ne_eqb}
use Rattle.std.specs.Prelude.{Result, Ok, Err, ⊤}
use Rattle.analog.specs.Answers.{Answer, first_no, asked}
use Rattle.analog.specs.declared.Refusal.{Refusal}
use Rattle.analog.specs.declared.Refusal.TheVariants.{BadHeading, BadField, ShortBuffer, StrayAnswer}
use Rattle.analog.proofs.RefusalLaws.{number_some}
use Rattle.analog.proofs.AnswerLaws.{none_asked, ok_first, err_first, answered_ok, answered_err}
use Rattle.pmc330_model.specs.Calls.{Call}
use Rattle.pmc330_model.specs.Board.{board_call, new_board, answers_from, answers_of, open_call}
use Rattle.pmc330_model.specs.declared.Board.{Board}
use Rattle.pmc330_model.specs.declared.Reply.{Reply}
use Rattle.trace.specs.Grammar.{is_call_tag}
use Rattle.trace.specs.Fields.{Field, tag_of, is_heading, range_of, later_fields, is_undamaged, fields_after, call_fields, call_in, calls_among, calls_of}
use Rattle.trace.specs.Play.{answers_follow, field_questions, trace_questions, played, trace_number, answer_bytes, bytes_of, in_buffer, played_buffer}
use Rattle.trace.proofs.FieldLaws.{call_front, other_front}
use Rattle.trace.proofs.CheckLaws.{heading_parts}

-- ---- the answers in a buffer

in_buffer_step : (a : Answer) (later : List Answer) (buffer : List ℕ) → in_buffer (a ∷ later) buffer ≡ answer_bytes a ++ in_buffer later (drop 5 buffer)
unfolding in_buffer bytes_of
in_buffer_step a later buffer =
    ap (λ (l : List ℕ). answer_bytes a ++ (bytes_of later ++ l))
    (ap (λ (n : ℕ). drop n buffer) five ∙ sym (drop-drop (length (bytes_of later)) 5 buffer))
  where
    five : length (answer_bytes a ++ bytes_of later) ≡ 5 + length (bytes_of later)
    five = length-append (answer_bytes a) (bytes_of later)

-- five bytes written at the front of the tail of a buffer
module _ (xs five : List ℕ) (done : ℕ) (size : length five ≡ 5) (room : done + 5 ≤ length xs) where
  abbrev head : List ℕ
  head = take done xs ++ five

  abbrev written_at : List ℕ
  written_at = head ++ drop 5 (drop done xs)

  head_length : length head ≡ done + 5
  head_length = length-append (take done xs) five ∙ ap₂ ◌+◌ (length-take-le done xs (omega arith)) size

  after_length : length written_at ≡ length xs
  after_length =
      omega (arith, length-append head (drop 5 (drop done xs)), head_length, length-drop 5 (drop done xs), length-drop done xs)

  after_take : take (done + 5) written_at ≡ head
  after_take = take_at head (drop 5 (drop done xs)) (done + 5) head_length

  after_drop : drop (done + 5) written_at ≡ drop 5 (drop done xs)
  after_drop = drop_at head (drop 5 (drop done xs)) (done + 5) head_length

-- ---- a turn of the player

-- where the player stands, with some fields of the trace left: what is written, with what the calls in these will write, is what
-- the whole trace writes
pub record Playing (trace buffer : List ℕ) (start : Board) (answers : List ℕ) (board : Board) (rest : List Field) (done : ℕ) : Type 0 where
  pub room : done + 5 * length (calls_among rest) ≤ length answers
  pub same : length answers ≡ length buffer
  pub written : take done answers ++ in_buffer (answers_from board (calls_among rest)) (drop done answers) ≡ in_buffer (answers_from start (calls_of trace)) buffer

pub opening :
    (trace buffer : List ℕ) (start : Board) → 5 * length (calls_of trace) ≤ length buffer
    → Playing trace buffer start buffer start (fields_after trace) 0
opening trace buffer start fits =
    record {
      room = omega (arith, fits);
      same = refl;
      written = refl;
    }

-- what is left of the buffer, as the code hands it on
abbrev pub rest_from : (answers : List ℕ) (done : ℕ) → List ℕ
rest_from answers done = take (length answers - done) (drop done answers)

-- one turn of the loop at a call, by what its calls give
pub record Turn (trace buffer : List ℕ) (start : Board) (answers : List ℕ) (board : Board) (field : Field) (rest : List Field) (done : ℕ) : Type 0 where
  pub room : done + 5 ≤ length answers
  pub left : 5 ≤ length (rest_from answers done)
  pub next :
      (reply : Reply) (ys : List ℕ) → reply ≡ board_call board (call_in field)
      → ys ≡ answer_bytes reply.answer ++ drop 5 (rest_from answers done)
      → Playing trace buffer start (take done answers ++ (ys ++ drop (length answers - done) (drop done answers))) reply.board rest (done + 5)

module _
    (trace buffer : List ℕ) (start : Board) (answers : List ℕ) (board : Board) (field : Field) (rest : List Field) (done : ℕ)
    (p : Playing trace buffer start answers board (field ∷ rest) done)
  where
    -- a recorded answer is passed over
    pub passes : is_call_tag field.tag ≡ false → Playing trace buffer start answers board rest done
    passes other =
        let calls : calls_among (field ∷ rest) ≡ calls_among rest = other_front field rest other in
        record {
          room = omega (arith, p.room, ap length calls);
          same = p.same;
          written = ap (λ (made : List Call). take done answers ++ in_buffer (answers_from board made) (drop done answers)) (sym calls) ∙ p.written;
        }

    module _ (made : is_call_tag field.tag ≡ true) where
      abbrev later : List Call
      later = calls_among rest

      calls : calls_among (field ∷ rest) ≡ call_in field ∷ later
      calls = call_front field rest made

      turn_room : done + 5 ≤ length answers
      turn_room = omega (arith, p.room, ap length calls)

      tail_is : rest_from answers done ≡ drop done answers
      tail_is = take_all (length answers - done) (drop done answers) (omega (arith, length-drop done answers))

      tail_room : 5 ≤ length (rest_from answers done)
      tail_room = rw (tail_is) (omega (arith, length-drop done answers, turn_room))

      goes_on :
          (reply : Reply) (ys : List ℕ) → reply ≡ board_call board (call_in field) → ys ≡ answer_bytes reply.answer ++ drop 5 (rest_from answers done)
          → Playing trace buffer start (take done answers ++ (ys ++ drop (length answers - done) (drop done answers))) reply.board rest (done + 5)
      unfolding answers_from
      goes_on reply ys r y =
          subst (λ (l : List ℕ). Playing trace buffer start l reply.board rest (done + 5)) (sym back)
          (record {
            room = omega (arith, p.room, ap length calls, after_length answers five done refl turn_room);
            same = after_length answers five done refl turn_room ∙ p.same;
            written =
                ap₂ (λ (l m : List ℕ). l ++ in_buffer (answers_from reply.board later) m) (after_take answers five done refl turn_room)
                (after_drop answers five done refl turn_room)
                ∙ append_assoc (take done answers) five (in_buffer (answers_from reply.board later) (drop 5 (drop done answers)))
                ∙ ap (λ (l : List ℕ). take done answers ++ l)
                (sym (in_buffer_step reply.answer (answers_from reply.board later) (drop done answers))
                ∙ ap (λ (s : Reply). in_buffer (s.answer ∷ answers_from s.board later) (drop done answers)) r
                ∙ ap (λ (made : List Call). in_buffer (answers_from board made) (drop done answers)) (sym calls))
                ∙ p.written;
          })
        where
          five : List ℕ
          five = answer_bytes reply.answer

          back : take done answers ++ (ys ++ drop (length answers - done) (drop done answers)) ≡ written_at answers five done refl turn_room
          back =
              ap₂ (λ (l m : List ℕ). take done answers ++ (l ++ m)) (y ∙ ap (λ (l : List ℕ). five ++ drop 5 l) tail_is)
              (drop_of_length-le (drop done answers) {i = length answers - done} (omega (arith, length-drop done answers)))
              ∙ ap (λ (l : List ℕ). take done answers ++ l) (append-nil (five ++ drop 5 (drop done answers)))
              ∙ sym (append_assoc (take done answers) five (drop 5 (drop done answers)))

      pub turn : Turn trace buffer start answers board field rest done
      turn = record { room = turn_room; left = tail_room; next = goes_on }

-- at the end
pub over :
    (trace buffer : List ℕ) (start : Board) (answers : List ℕ) (board : Board) (done : ℕ)
    → Playing trace buffer start answers board [] done → answers ≡ in_buffer (answers_from start (calls_of trace)) buffer
unfolding answers_from in_buffer bytes_of call_fields
over trace buffer start answers board done p = sym (take-append-drop done answers) ∙ p.written

-- ---- the number of a trace

-- question 20 is asked after the others
abbrev and_room : Result ⊤ Refusal → (room : Bool) → Result ⊤ Refusal
and_room (Ok all) room = cond room (Ok record {}) (Err ShortBuffer)
and_room (Err refusal) room = Err refusal

asked_last :
    (a b d room : Bool)
    → ◌≡◌ {A = ℕ} (cond a (cond b (cond d (cond room 0 20) 26) 19) 18)
    (cond (eqb (cond a (cond b (cond d 0 26) 19) 18) 0) (cond room 0 20) (cond a (cond b (cond d 0 26) 19) 18))
asked_last true true true room = refl
asked_last true true false room = refl
asked_last true false d room = refl
asked_last false b d room = refl

module _ (trace : List ℕ) (room : ℕ) where
  pub number_is :
      trace_number trace room
      ≡ cond (eqb (first_no (field_questions trace)) 0) (cond (leb (5 * length (calls_of trace)) room) 0 20) (first_no (field_questions trace))
  unfolding trace_number first_no
  number_is =
      asked_last (leb (length trace) 16_777_216 && is_heading trace) (is_undamaged (later_fields trace)) (answers_follow (tag_of trace) (fields_after trace))
      (leb (5 * length (calls_of trace)) room)

-- so it is asked: the first of the others that is answered with no, or itself
room_asked :
    (a b d room : Bool)
    → ◌≡◌ {A = Result ⊤ Refusal} (cond a (cond b (cond d (cond room (Ok record {}) (Err ShortBuffer)) (Err StrayAnswer)) (Err BadField)) (Err BadHeading))
    (and_room (cond a (cond b (cond d (Ok record {}) (Err StrayAnswer)) (Err BadField)) (Err BadHeading)) room)
room_asked true true true room = refl
room_asked true true false room = refl
room_asked true false d room = refl
room_asked false b d room = refl

module _ (trace : List ℕ) (room : ℕ) where
  asked_is : asked (trace_questions trace room) ≡ and_room (asked (field_questions trace)) (leb (5 * length (calls_of trace)) room)
  unfolding asked
  asked_is =
      room_asked (leb (length trace) 16_777_216 && is_heading trace) (is_undamaged (later_fields trace)) (answers_follow (tag_of trace) (fields_after trace))
      (leb (5 * length (calls_of trace)) room)

  pub asked_refused : (refusal : Refusal) → asked (field_questions trace) ≡ Err refusal → asked (trace_questions trace room) ≡ Err refusal
  asked_refused refusal e = asked_is ∙ ap (λ (r : Result ⊤ Refusal). and_room r (leb (5 * length (calls_of trace)) room)) e

  module _ (none : first_no (field_questions trace) ≡ 0) where
    asked_room : asked (trace_questions trace room) ≡ and_room (Ok record {}) (leb (5 * length (calls_of trace)) room)
    asked_room = asked_is ∙ ap (λ (r : Result ⊤ Refusal). and_room r (leb (5 * length (calls_of trace)) room)) (none_asked (field_questions trace) none)

    pub asked_20 : room < 5 * length (calls_of trace) → asked (trace_questions trace room) ≡ Err ShortBuffer
    asked_20 less = asked_room ∙ ap (and_room (Ok record {})) (lt-leb (5 * length (calls_of trace)) room less)

    pub asked_all : 5 * length (calls_of trace) ≤ room → asked (trace_questions trace room) ≡ Ok record {}
    asked_all enough = asked_room ∙ ap (and_room (Ok record {})) (le-leb (5 * length (calls_of trace)) room enough)

-- ---- what the player gives back

-- the answer and the buffer of a play
pub record Played (trace buffer : List ℕ) (result : Answer) (answers : List ℕ) : Type 0 where
  pub answer : result ≡ played trace (length buffer)
  pub bytes : answers ≡ played_buffer trace buffer

pub refused : (trace buffer : List ℕ) (refusal : Refusal) → asked (trace_questions trace (length buffer)) ≡ Err refusal → Played trace buffer (Err refusal) buffer
unfolding played played_buffer trace_number
refused trace buffer refusal e =
    record {
      answer = sym (answered_err (trace_questions trace (length buffer)) (length (calls_of trace)) refusal e);
      bytes =
          rw (ne_eqb (first_no (trace_questions trace (length buffer))) 0 (λ none. omega (arith, err_first (trace_questions trace (length buffer)) refusal e, number_some refusal)));
    }

pub accepted :
    (trace buffer : List ℕ) → asked (trace_questions trace (length buffer)) ≡ Ok record {}
    → Played trace buffer (Ok (length (calls_of trace))) (in_buffer (answers_of (range_of trace) (calls_of trace)) buffer)
unfolding played played_buffer trace_number
accepted trace buffer e =
    record {
      answer = sym (answered_ok (trace_questions trace (length buffer)) (length (calls_of trace)) e);
      bytes = rw (ok_first (trace_questions trace (length buffer)) e);
    }

-- ---- the board

-- the board that a trace's calls begin on
pub opened_board : (trace : List ℕ) → is_heading trace ≡ true → (b : Board) (range : ℕ) → range ≡ range_of trace → (open_call b range).board ≡ new_board (range_of trace)
opened_board trace heading b range same =
    ap (λ (n : ℕ). cond (leb n 3) (new_board n) b) same
    ∙ ap (λ (t : Bool). cond t (new_board (range_of trace)) b) (le-leb (range_of trace) 3 (heading_parts trace heading).range)
