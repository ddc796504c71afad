-- The sentences on traces, proved. Their statements are in specs/Sentences.antt.
use mathlib.Core.Bool.{true, false}
use mathlib.Core.List.{List}
use mathlib.Core.Path.{◌≡◌, sym, ap, ◌∙◌}
use Prim.Native.Nat.{ℕ}
use native.Mathlib.Omega.{arith}
use lib.Dec.{eqb}
use borrow.Author.Tests.{ne_eqb}
use lib.ListN.{length}
use Rattle.std.proofs.lemmas.Bool.{and_parts}
use Rattle.analog.specs.Answers.{Answer, number_of_refusal, first_no, all_met, asked, with_value, answered, packed}
use Rattle.analog.proofs.RefusalLaws.{number_some}
use Rattle.analog.proofs.AnswerLaws.{Outcome, met, unmet, outcome, none_first, some_first, none_asked}
use Rattle.pmc330_model.proofs.Sentences.{answers_agree}
use Rattle.trace.specs.Fields.{is_heading, range_of, fields_of, calls_of}
use Rattle.trace.specs.Play.{trace_questions, played, trace_number, calls_answered, played_result, played_buffer, in_buffer}
use Rattle.trace.specs.Sentences.{EveryRefusedTrace, EveryAcceptedTrace, EveryPackedPlay, EveryWalk}
use Rattle.trace.proofs.FieldLaws.{enough, fields_end, fields_step}
use Rattle.trace.proofs.CheckLaws.{heading_parts}
use Rattle.trace.proofs.PlayLaws.{accepted}

pub traces_refused : EveryRefusedTrace
unfolding trace_number calls_answered played_buffer
traces_refused trace buffer failed =
    let refused : eqb (first_no (trace_questions trace (length buffer))) 0 ≡ false =
    ne_eqb (first_no (trace_questions trace (length buffer))) 0 (λ none. omega (arith, some_first (trace_questions trace (length buffer)) failed)) in
    record {
      result = rw refused (omega arith);
      unchanged = rw refused;
    }

-- question 18 is the first
accepted_heading : (trace : List ℕ) (room : ℕ) → all_met (trace_questions trace room) ≡ true → is_heading trace ≡ true
unfolding all_met
accepted_heading trace room all = (and_parts _ _ (and_parts _ _ all).0).1

pub traces_accepted : EveryAcceptedTrace
unfolding trace_number calls_answered
traces_accepted trace buffer all =
    let none = none_first (trace_questions trace (length buffer)) all in
    let played = accepted trace buffer (none_asked (trace_questions trace (length buffer)) none) in
    let valid = (heading_parts trace (accepted_heading trace (length buffer) all)).range in
    record {
      result = rw none (omega arith);
      answers =
          sym played.bytes
          ∙ ap (λ (answers : List Answer). in_buffer answers buffer) (answers_agree (range_of trace) (omega (arith, valid)) (calls_of trace));
    }

pub plays_packed : EveryPackedPlay
unfolding played answered trace_number calls_answered
plays_packed trace room = go (outcome (trace_questions trace room))
  where
    go : Outcome (trace_questions trace room) → packed (with_value (asked (trace_questions trace room)) (length (calls_of trace))) ≡ played_result trace room
    go (met all none ok) = rw (ok, none) (omega arith)
    go (unmet refusal some number err) = rw (err, number, ne_eqb (number_of_refusal refusal) 0 (λ e. omega (arith, number_some refusal))) (omega arith)

pub walks_enough : EveryWalk
unfolding fields_of
walks_enough bytes =
    record {
      turns = λ n more. enough n _ bytes more (omega arith);
      ended = fields_end bytes;
      next = λ some field. fields_step bytes some ∙ rw field;
      other = λ some broken. fields_step bytes some ∙ rw broken;
    }
