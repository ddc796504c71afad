-- A trace is refused by its check, or for want of room; else it is played by the laws of a turn.
use mathlib.Core.List.{List}
use mathlib.Core.Path.{◌≡◌, ap, subst, ◌∙◌}
use Prim.Native.Nat.{ℕ, ◌≤◌}
use native.Mathlib.Omega.{arith}
use lib.ListN.{length}
use Rattle.std.specs.Prelude.{Ok, Err}
use Rattle.std.proofs.lemmas.Result.{err_from_is_err_and}
use Rattle.analog.specs.Answers.{first_no}
use Rattle.analog.specs.declared.Refusal.TheVariants.{ShortBuffer}
use Rattle.pmc330_model.specs.Board.{answers_of}
use Rattle.trace.specs.Fields.{range_of, calls_of}
use Rattle.trace.specs.Play.{field_questions, in_buffer}
use Rattle.trace.proofs.CheckLaws.{calls_most}
use Rattle.trace.proofs.PlayLaws.{asked_refused, asked_20, asked_all, refused, accepted}
use Rattle.trace.proofs.play.Goals as goal
use Rattle.trace.proofs.play.Goals.{In_ok-checked}

pub returns-in_err-checked : goal.returns-in_err-checked
returns-in_err-checked c =
    let trace = c.args.trace.now in
    let p = err_from_is_err_and c.from_residual.result c.from_residual.ensures.1 in
    let r = refused trace c.args.answers.now c.in_err-checked.field-0.0 (asked_refused trace _ _ c.in_err-checked.ensures) in
    record { result = p.1 ∙ ap Err p.2 ∙ r.answer; buffer = r.bytes }

-- what its check found
module _ (c : In_ok-checked) where
  passed : first_no (field_questions c.args.trace.now) ≡ 0
  passed = subst (λ (l : List ℕ). first_no (field_questions l) ≡ 0) c.in_ok-checked.ensures c.in_ok-checked.checked.passed

  counted : c.in_ok-checked.checked.calls ≡ length (calls_of c.args.trace.now)
  counted = c.in_ok-checked.checked.counted ∙ ap (λ (l : List ℕ). length (calls_of l)) c.in_ok-checked.ensures

  few : c.in_ok-checked.checked.calls ≤ 16_777_216
  few = omega (arith, counted, calls_most c.args.trace.now passed)

pub overflow_mul-checked : goal.overflow_mul-checked
overflow_mul-checked c = omega (arith, few (goal.at.overflow_mul-checked c).In_ok-checked)

pub returns-then-answers-checked : goal.returns-then-answers-checked
returns-then-answers-checked c =
    let trace = c.args.trace.now in
    let k = (goal.at.returns-then-answers-checked c).In_ok-checked in
    let p = refused trace c.args.answers.now ShortBuffer (asked_20 trace _ (passed k) (omega (arith, counted k, c.if-answers-checked.true))) in
    record { result = p.answer; buffer = p.bytes }

pub overflow_cast-result : goal.overflow_cast-result
overflow_cast-result c = omega (arith, few (goal.at.overflow_cast-result c).In_ok-checked)

pub returns : goal.returns
returns c =
    let trace = c.args.trace.now in
    let k = (goal.at.returns c).In_ok-checked in
    let p = accepted trace c.args.answers.now (asked_all trace _ (passed k) (omega (arith, counted k, c.if-answers-checked.false))) in
    record {
      result = ap Ok (counted k) ∙ p.answer;
      buffer = c.play_calls.ensures ∙ ap (λ (l : List ℕ). in_buffer (answers_of (range_of l) (calls_of l)) c.args.answers.now) c.in_ok-checked.ensures ∙ p.bytes;
    }
