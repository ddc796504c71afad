-- The sentences of the data sheet, proved. Their statements are in specs/Sentences.antt.
use mathlib.Core.Bool.{Bool, true, cond}
use mathlib.Core.List.{List, [], ◌∷◌}
use mathlib.Core.Path.{◌≡◌, refl, sym, ap, ap₂, subst, ◌∙◌}
use Prim.Native.Nat.{ℕ, ◌+◌, ◌*◌, ◌/◌, ◌%◌, ◌≤◌}
use native.Mathlib.Omega.{arith}
use lib.Dec.{leb}
use borrow.Author.Tests.{ne_eqb, le-leb}
use Rattle.analog.specs.Answers.{Question, first_no, asked, answered, value_of, is_accepted}
use Rattle.analog.specs.Sums.{sum_of}
use Rattle.analog.proofs.AnswerLaws.{some_first, answered_by}
use Rattle.pmc330_model.specs.Calls.{Call}
use Rattle.pmc330_model.specs.Board.{new_board, advanced, stores_in, questions_of, after_call, value_of_call, board_call, advance_call, board_from, answers_from, board_after}
use Rattle.pmc330_model.specs.Logbook.{since, Logbook, was_reset, idle, stores_since, new_logbook, logged, logged_answer, logged_from, logged_answers_from, logbook_of}
use Rattle.pmc330_model.specs.Questions.{call_questions}
use Rattle.pmc330_model.specs.Sentences.{Sentence1, ReadsBit, Sentence3, EveryCall1, AfterList1, EveryList1, EveryNew1, EveryAnswer, EveryList3, EveryOpening, EverySchedule, EveryStart, EveryTick, EveryPair, EveryAdvances, board_after_advances, value_of_advances}
use Rattle.pmc330_model.specs.declared.Board.{Board}
use Rattle.pmc330_model.proofs.Agreement.{Startable, Related}
use Rattle.pmc330_model.proofs.Cycles.{bits_clear}
use Rattle.pmc330_model.proofs.CallsAgree.{questions_same, answer_same, call_agrees}
use Rattle.pmc330_model.proofs.Jumps.{no_ticks, no_stores, advanced_add, stores_add}
use Rattle.pmc330_model.proofs.Memory.{memory_reset}
use Rattle.pmc330_model.proofs.Reading.{sentence3_of}
use Rattle.pmc330_model.proofs.Scheduled.{scheduled, ticks_counted_lem}
use Rattle.std.specs.Prelude.{Ok}

-- ---- sentence 1

pub sentence1 : EveryCall1
unfolding board_call
sentence1 b call =
    record {
      answer = answered_by (questions_of b call) (value_of_call b call);
      board = λ no.
          ap (λ (t : Bool). cond t (after_call b call) b)
          (ne_eqb (first_no (questions_of b call)) 0 (λ none. omega (arith, some_first (questions_of b call) no)));
    }

pub new_boards : EveryNew1
unfolding asked answered first_no
new_boards range = grind arith

-- ---- sentence 3, and sentence 1 after a list

-- a new board and its logbook
opening : (range : ℕ) → Related (new_logbook range) (new_board range)
opening range =
    record {
      tick = 0;
      cycle = idle;
      events = was_reset ∷ [];
      same = refl;
      agrees =
          record {
            memory = memory_reset [];
            taken = omega arith;
            limits = record { scan = omega arith; start = omega arith; end = omega arith };
            running = refl;
          };
    }

pub related_call : (l : Logbook) (b : Board) → Related l b → (call : Call) → Related (logged l call) (board_call b call).board
related_call l b h call =
    subst (λ (book : Logbook). Related (logged book call) (board_call b call).board) (sym h.same)
    (call_agrees b h.tick h.cycle h.events h.agrees call)

related_calls : (calls : List Call) (l : Logbook) (b : Board) → Related l b → Related (logged_from l calls) (board_from b calls)
unfolding logged_from board_from
related_calls [] l b h = h
related_calls (call ∷ calls) l b h = related_calls calls (logged l call) (board_call b call).board (related_call l b h call)

-- the board and the logbook that a list ends with
pub after : (range : ℕ) (calls : List Call) → Related (logbook_of range calls) (board_after range calls)
after range calls = related_calls calls (new_logbook range) (new_board range) (opening range)

pub sentence3 : EveryList3
sentence3 range valid calls =
    let h = after range calls in
    subst (Sentence3 (board_after range calls)) (sym h.same)
    (sentence3_of (board_after range calls) h.tick h.cycle h.events h.agrees)

pub sentence1_after : EveryList1
sentence1_after range valid calls next =
    let h = after range calls in
    subst (λ (l : Logbook). AfterList1 (board_after range calls) l next) (sym h.same)
    (subst (λ (questions : List Question). Sentence1 questions (board_after range calls) next)
    (questions_same (board_after range calls) h.tick h.cycle h.events h.agrees next)
    (sentence1 (board_after range calls) next))

-- a running cycle met questions 9 and 10
pub running_startable :
    (l : Logbook) (b : Board) → Related l b → (T : ℕ) (triggers : List ℕ) → l.cycle ≡ since T triggers → Startable l.registers
running_startable l b h T triggers running = grind arith

pub schedule : EverySchedule
schedule range valid calls =
    scheduled (logbook_of range calls) (running_startable (logbook_of range calls) (board_after range calls) (after range calls))

-- sentence 3 of the board after the start, whose events have no store since
pub starts_clear : EveryStart
starts_clear range valid calls call start slot inside =
    let book = logbook_of range calls in
    let board = board_after range calls in
    let h = related_call book board (after range calls) call in
    let shown : Sentence3 (board_call board call).board (logged book call) =
    subst (Sentence3 (board_call board call).board) (sym h.same)
    (sentence3_of (board_call board call).board h.tick h.cycle h.events h.agrees) in
    let none : stores_since slot (logged book call).events ≡ 0 = bits_clear book call start slot in
    record {
      new_data =
          subst (λ (count : ℕ). ReadsBit (board_call board call).board (0x14 + 4 * (slot / 16)) (slot % 16) (leb 1 count)) none
          (shown.new_data slot inside);
      missed_data =
          subst (λ (count : ℕ). ReadsBit (board_call board call).board (0x1c + 4 * (slot / 16)) (slot % 16) (leb 2 count)) none
          (shown.missed_data slot inside);
    }

pub opened_empty : EveryOpening
unfolding logged_from
opened_empty range = refl

pub ticks_counted : EveryTick
ticks_counted = ticks_counted_lem

answers_agree_lem : (calls : List Call) (l : Logbook) (b : Board) → Related l b → answers_from b calls ≡ logged_answers_from l calls
unfolding answers_from logged_answers_from
answers_agree_lem [] l b h = refl
answers_agree_lem (call ∷ calls) l b h =
    ap₂ ◌∷◌
    (answer_same b h.tick h.cycle h.events h.agrees call ∙ ap (λ (book : Logbook). logged_answer book call) (sym h.same))
    (answers_agree_lem calls (logged l call) (board_call b call).board (related_call l b h call))

pub answers_agree : EveryAnswer
answers_agree range valid calls = answers_agree_lem calls (new_logbook range) (new_board range) (opening range)

-- ---- jumps in time

-- an advance is accepted exactly up to the most ticks
accepted_most : (b : Board) (n : ℕ) → is_accepted (advance_call b n).answer ≡ true → n ≤ 16_777_216
unfolding board_call call_questions first_no asked answered
accepted_most b n e = grind arith

module _ (b : Board) (n : ℕ) (most : n ≤ 16_777_216) where
  pub accepted_board : (advance_call b n).board ≡ advanced n b
  unfolding board_call call_questions first_no after_call
  accepted_board = rw (le-leb n 16_777_216 most)

  pub accepted_answer : (advance_call b n).answer ≡ Ok (stores_in n b)
  unfolding board_call call_questions first_no asked answered value_of_call
  accepted_answer = rw (le-leb n 16_777_216 most)

  accepted_is : is_accepted (advance_call b n).answer ≡ true
  accepted_is = ap is_accepted accepted_answer

  pub accepted_value : value_of (advance_call b n).answer ≡ stores_in n b
  accepted_value = ap value_of accepted_answer

pub advance_joins : EveryPair
advance_joins b n k accepted =
    let most : n + k ≤ 16_777_216 = accepted_most b (n + k) accepted in
    record {
      first = accepted_is b n (omega arith);
      second = accepted_is (advance_call b n).board k (omega arith);
      board =
          accepted_board (advance_call b n).board k (omega arith)
          ∙ ap (advanced k) (accepted_board b n (omega arith))
          ∙ advanced_add n k b
          ∙ sym (accepted_board b (n + k) most);
      value =
          ap₂ ◌+◌ (accepted_value b n (omega arith))
          (accepted_value (advance_call b n).board k (omega arith) ∙ ap (stores_in k) (accepted_board b n (omega arith)))
          ∙ stores_add n k b
          ∙ sym (accepted_value b (n + k) most);
    }

pub advances_join : EveryAdvances
unfolding sum_of board_after_advances value_of_advances
advances_join [] b accepted =
    record {
      accepted = tt;
      board = sym (accepted_board b 0 (omega arith) ∙ no_ticks b);
      value = sym (accepted_value b 0 (omega arith) ∙ no_stores b);
    }
advances_join (n ∷ ns) b accepted =
    let joined = advance_joins b n (sum_of ns) accepted in
    let rest = advances_join ns (advance_call b n).board joined.second in
    record {
      accepted = (joined.first, rest.accepted);
      board = rest.board ∙ joined.board;
      value = ap (λ (m : ℕ). value_of (advance_call b n).answer + m) rest.value ∙ joined.value;
    }
