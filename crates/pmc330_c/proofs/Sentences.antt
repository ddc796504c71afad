-- What C sees of a board that it steps. The statements are in specs/Stepping.antt.
use mathlib.Core.Bool.{Bool, false, cond}
use mathlib.Core.List.{List, [], ◌∷◌}
use mathlib.Core.Path.{◌≡◌, refl, sym, ap, ap₂, subst, ◌∙◌}
use Prim.Native.Nat.{ℕ, ◌<◌}
use native.Mathlib.Omega.{arith}
use lib.Dec.{leb}
use borrow.Author.Tests.{le-leb, lt-leb}
use Rattle.std.specs.Prelude.{Ok, Err, IsErrAnd}
use Rattle.analog.specs.Answers.{Answer, packed, asked, answered, is_accepted}
use Rattle.analog.specs.declared.Refusal.{Refusal}
use Rattle.pmc330_model.specs.Calls.{Call}
use Rattle.pmc330_model.specs.Board.{new_board, next_store, board_call, board_from, answers_from}
use Rattle.pmc330_model.specs.Logbook.{logbook_of}
use Rattle.pmc330_model.specs.Sentences.{AfterList1, Sentence3, value_of_advances}
use Rattle.pmc330_model.specs.declared.Board.{Board}
use Rattle.pmc330_model.proofs.NextStores.{last_stores}
use Rattle.pmc330_model.proofs.Sentences.{sentence1, sentence1_after, answers_agree, sentence3}
use Rattle.pmc330.specs.Raw.{board_of, Plain, raw_of}
use Rattle.pmc330.proofs.RawLaws.{plain_is}
use Rattle.pmc330.specs.declared.raw.RawBoard.{RawBoard}
use Rattle.pmc330_c.specs.Stepping.{Stepped, Opened, Step, Steps, raw_after, calls_of, results_of, packed_all, EverySteps, EveryRefusedStep, EveryRefusedOpen}

-- what a call gives is the answer of its definition, packed
packed_answer :
    (call : Call) (before : RawBoard) (result : ℕ) (after : RawBoard) → Stepped call before result after
    → result ≡ packed (board_call (board_of before) call).answer
packed_answer call before result after h = h.1.0 ∙ ap packed h.1.1.answer

-- ---- a list of calls

-- the first of some steps, and those after it, on the board that it left
first_step : (before : RawBoard) (step : Step) (steps : List Step) → Steps before (step ∷ steps) → Stepped step.call before step.result step.after
first_step before step steps h = search

later_steps : (before : RawBoard) (step : Step) (steps : List Step) → Steps before (step ∷ steps) → Steps step.after steps
later_steps before step steps h = search

steps_board : (steps : List Step) (before : RawBoard) → Steps before steps → board_of (raw_after before steps) ≡ board_from (board_of before) (calls_of steps)
unfolding raw_after calls_of board_from
steps_board [] before h = refl
steps_board (step ∷ steps) before h =
    steps_board steps step.after (later_steps before step steps h)
    ∙ ap (λ (b : Board). board_from b (calls_of steps)) (first_step before step steps h).1.1.board

steps_answers : (steps : List Step) (before : RawBoard) → Steps before steps → results_of steps ≡ packed_all (answers_from (board_of before) (calls_of steps))
unfolding results_of calls_of packed_all answers_from
steps_answers [] before h = refl
steps_answers (step ∷ steps) before h =
    ap₂ ◌∷◌ (packed_answer step.call before step.result step.after (first_step before step steps h))
    (steps_answers steps step.after (later_steps before step steps h)
    ∙ ap (λ (b : Board). packed_all (answers_from b (calls_of steps))) (first_step before step steps h).1.1.board)

-- the bytes of an opened board are plain, and every call leaves them so
opened_plain : (range result : ℕ) → range < 4 → (before opened : RawBoard) → Opened range before result opened → Plain opened
unfolding answered asked
opened_plain range result valid before opened h = h.plain (rw (le-leb range 3 (omega arith)))

steps_plain : (steps : List Step) (before : RawBoard) → Steps before steps → Plain before → Plain (raw_after before steps)
unfolding raw_after
steps_plain [] before h plain = plain
steps_plain (step ∷ steps) before h plain =
    steps_plain steps step.after (later_steps before step steps h) ((first_step before step steps h).1.1.plain plain)

opened_board : (range result : ℕ) → range < 4 → (before opened : RawBoard) → Opened range before result opened → board_of opened ≡ new_board range
opened_board range result valid before opened h =
    h.board ∙ ap (λ (t : Bool). cond t (new_board range) (board_of before)) (le-leb range 3 (omega arith))

pub steps_seen : EverySteps
steps_seen range result valid before opened h steps run =
    let new : board_of opened ≡ new_board range = opened_board range result valid before opened h in
    let answers = steps_answers steps opened run ∙ ap (λ (b : Board). packed_all (answers_from b (calls_of steps))) new in
    let board = steps_board steps opened run ∙ ap (λ (b : Board). board_from b (calls_of steps)) new in
    record {
      answers = answers;
      board = board;
      bytes =
          plain_is (raw_after opened steps) (steps_plain steps opened run (opened_plain range result valid before opened h))
          ∙ ap raw_of board;
      next = λ call.
          subst (λ (b : Board). AfterList1 b (logbook_of range (calls_of steps)) call) (sym board)
          (sentence1_after range valid (calls_of steps) call);
      logged = answers ∙ ap packed_all (answers_agree range valid (calls_of steps));
      mailboxes = subst (λ (b : Board). Sentence3 b (logbook_of range (calls_of steps))) (sym board) (sentence3 range valid (calls_of steps));
      last =
          subst (λ (b : Board). next_store b ≡ 0 → (ns : List ℕ) → value_of_advances b ns ≡ 0) (sym board)
          (last_stores range valid (calls_of steps));
    }

-- ---- refusals

not_accepted : (answer : Answer) (P : Refusal → Type 0) → IsErrAnd answer P → is_accepted answer ≡ false
not_accepted (Ok value) P h = absurd h
not_accepted (Err refusal) P h = refl

pub refused_steps : EveryRefusedStep
refused_steps before after call result h unmet =
    let said = sentence1 (board_of before) call in (
      packed_answer call before result after h ∙ omega (arith, said.answer.number, said.answer.value unmet),
      h.1.1.kept (ap is_accepted h.1.1.answer ∙ not_accepted (board_call (board_of before) call).answer _ (said.answer.refused unmet)),
    )

pub refused_opens : EveryRefusedOpen
unfolding answered asked
refused_opens before after range result h above =
    let off : leb range 3 ≡ false = lt-leb range 3 above in (h.answer ∙ rw off, h.kept (rw off))
