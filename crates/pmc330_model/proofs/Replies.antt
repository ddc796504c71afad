-- A call's reply, by its number.
use mathlib.Core.Path.{◌≡◌, refl}
use Prim.Native.Nat.{ℕ}
use borrow.Author.Tests.{eq-eqb, ne_eqb}
use Rattle.analog.specs.Answers.{first_no, asked}
use Rattle.analog.specs.declared.Refusal.{Refusal}
use Rattle.analog.proofs.RefusalLaws.{number_some}
use Rattle.analog.proofs.AnswerLaws.{none_asked, err_first, answered_ok, answered_err}
use native.Mathlib.Omega.{arith}
use Rattle.pmc330_model.specs.Calls.{Call}
use Rattle.pmc330_model.specs.Board.{questions_of, after_call, value_of_call, board_call}
use Rattle.pmc330_model.specs.declared.Board.{Board}
use Rattle.pmc330_model.specs.declared.Reply.{Reply}
use Rattle.std.specs.Prelude.{Ok, Err}

module _ (b : Board) (call : Call) where
  pub refused_reply : (refusal : Refusal) → asked (questions_of b call) ≡ Err refusal → ◌≡◌ {A = Reply} (record { board = b; answer = Err refusal }) (board_call b call)
  unfolding board_call
  refused_reply refusal e =
      let number = err_first (questions_of b call) refusal e in
      let no_zero = ne_eqb (first_no (questions_of b call)) 0 (λ none. omega (arith, number, none, number_some refusal)) in
      rw (no_zero, answered_err (questions_of b call) (value_of_call b call) refusal e) refl

  pub accepted_reply : (next : Board) (value : ℕ) → first_no (questions_of b call) ≡ 0 → next ≡ after_call b call → value ≡ value_of_call b call → ◌≡◌ {A = Reply} (record { board = next; answer = Ok value }) (board_call b call)
  unfolding board_call
  accepted_reply next value none same answer =
      let zero = eq-eqb (first_no (questions_of b call)) 0 none in
      let ok = none_asked (questions_of b call) none in
      rw (zero, answered_ok (questions_of b call) (value_of_call b call) ok, same, answer) refl
