-- Each call keeps the board and its logbook related, and both give the same answer.
use mathlib.Core.Bool.{Bool, true, not, cond, false≢true}
use mathlib.Core.List.{List, [], ◌∷◌}
use mathlib.Core.Path.{◌≡◌, refl, sym, ap, subst, ◌∙◌}
use Prim.Native.Nat.{ℕ, ◌-◌}
use native.Mathlib.Omega.{arith}
use lib.Dec.{eqb}
use borrow.Author.Tests.{eqb-true, leb-true}
use Rattle.analog.specs.Answers.{Question, question, first_no}
use Rattle.analog.proofs.AnswerLaws.{same_if_met}
use Rattle.pmc330_model.specs.Map.{class_of, scan_field}
use Rattle.pmc330_model.specs.declared.Register.{Register}
use Rattle.pmc330_model.specs.declared.Register.TheVariants.{Mailbox}
use Rattle.pmc330_model.specs.Words.{with_word, read_bytes, is_start}
use Rattle.pmc330_model.specs.Calls.{Call, read, write, input, advance, trigger, reset, look, clear}
use Rattle.pmc330_model.specs.Board.{after_read, after_call, value_of_call, questions_of, board_call, stores_in}
use Rattle.pmc330_model.specs.Logbook.{Event, was_reset, CycleSince, idle, is_idle, Logbook, read_event, happens, logbook_questions, logged, logged_value, logged_answer, stores_made, ticks_pass}
use Rattle.pmc330_model.specs.Questions.{is_allowed, is_valid, has_channels, has_interval, start_questions, resulting_word, call_questions}
use Rattle.pmc330_model.specs.declared.Registers.{Registers}
use Rattle.pmc330_model.specs.declared.Board.{Board}
use Rattle.pmc330_model.proofs.Agreement.{book_of, Agrees, Related}
use Rattle.pmc330_model.proofs.Memory.{memory_read, memory_reset}
use Rattle.pmc330_model.proofs.QuestionLaws.{first_met, rest_met}
use Rattle.pmc330_model.proofs.Reading.{words_agree, look_agrees}
use Rattle.pmc330_model.proofs.Related.{unchanged, both}
use Rattle.pmc330_model.proofs.Ticks.{ticks_agree}
use Rattle.pmc330_model.proofs.Triggers.{trigger_agrees}
use Rattle.pmc330_model.proofs.Writes.{write_agrees}
use Rattle.analog.specs.declared.Refusal.TheVariants.{BadCode, Busy}

module _ (b : Board) (tick : ℕ) (cycle : CycleSince) (events : List Event) (agrees : Agrees b tick cycle events) where
  read_agrees : (register : Register) → Related (record { range = b.range; registers = b.registers; gains = b.gains; inputs = b.inputs; tick = tick; taken = b.taken; cycle = cycle; events = read_event register events }) (after_read register b)
  read_agrees (Mailbox slot) =
      record {
        tick = tick;
        cycle = cycle;
        events = _;
        same = refl;
        agrees =
            record {
              memory = memory_read events b.codes b.unread b.pending agrees.memory slot;
              taken = agrees.taken;
              limits = agrees.limits;
              running = agrees.running;
            };
      }
  read_agrees _ = unchanged b tick cycle events agrees

  -- what the accepted questions of a write say
  module _ (width offset value : ℕ) where
    abbrev word : ℕ
    word = resulting_word b.registers b.gains width offset value

    abbrev resulting : Registers
    resulting = with_word (class_of offset) word b.registers

    abbrev last : List Question
    last = cond (is_start (class_of offset) word) (start_questions b.registers) []

    abbrev after6 : List Question
    after6 = question BadCode (is_valid (class_of offset) resulting) ∷ last

    abbrev after5 : List Question
    after5 = question Busy (is_allowed (is_idle cycle) (class_of offset) word resulting) ∷ after6

    started_met : first_no last ≡ 0 → is_start (class_of offset) word ≡ true → (scan_field b.registers.control ≡ 0 → ⊥) × (has_channels b.registers ≡ true) × (has_interval b.registers ≡ true)
    started_met e start =
        let first = subst (λ (t : Bool). first_no (cond t (start_questions b.registers) []) ≡ 0) start e in
        let second = rest_met _ _ _ first in (
          λ none. false≢true (sym (ap (λ (n : ℕ). not (eqb n 0)) none) ∙ first_met _ _ _ first),
          first_met _ _ _ second,
          first_met _ _ _ (rest_met _ _ _ second),
        )

    written : first_no (call_questions b.registers b.gains (is_idle cycle) (write width offset value)) ≡ 0 → Related (happens (book_of b tick cycle events) (write width offset value)) (after_call b (write width offset value))
    unfolding call_questions happens after_call
    written e =
        let five : first_no after5 ≡ 0 = rest_met _ _ _ (rest_met _ _ _ (rest_met _ _ _ (rest_met _ _ _ (rest_met _ _ _ e)))) in
        let six : first_no after6 ≡ 0 = rest_met _ _ _ five in
        write_agrees b tick cycle events agrees (class_of offset) word (first_met _ _ _ five) (first_met _ _ _ six) (started_met (rest_met _ _ _ six))

  -- every accepted call
  happens_agrees : (call : Call) → first_no (call_questions b.registers b.gains (is_idle cycle) call) ≡ 0 → Related (happens (book_of b tick cycle events) call) (after_call b call)
  unfolding happens after_call call_questions
  happens_agrees (read width offset) e = read_agrees (class_of offset)
  happens_agrees (write width offset value) e = written width offset value e
  happens_agrees (input channel microvolts) e =
      record {
        tick = tick;
        cycle = cycle;
        events = events;
        same = refl;
        agrees = record { memory = agrees.memory; taken = agrees.taken; limits = agrees.limits; running = agrees.running };
      }
  happens_agrees (advance ticks) e =
      let moved = ticks_agree ticks b tick cycle events agrees in
      record { tick = moved.tick; cycle = moved.cycle; events = moved.events; same = moved.same; agrees = moved.agrees }
  happens_agrees trigger e = trigger_agrees b tick cycle events agrees
  happens_agrees reset e =
      record {
        tick = 0;
        cycle = idle;
        events = was_reset ∷ events;
        same = refl;
        agrees =
            record {
              memory = memory_reset events;
              taken = omega arith;
              limits = record { scan = omega arith; start = omega arith; end = omega arith };
              running = refl;
            };
      }
  happens_agrees (look slot) e = unchanged b tick cycle events agrees
  happens_agrees (clear slot) e = read_agrees (Mailbox slot)

  pub questions_same : (call : Call) → questions_of b call ≡ logbook_questions (book_of b tick cycle events) call
  questions_same call = grind arith

  -- the number of stores that an advance makes
  stores_same : (n : ℕ) → stores_in n b ≡ stores_made (ticks_pass n (book_of b tick cycle events)).events - stores_made events
  stores_same n =
      let moved = ticks_agree n b tick cycle events agrees in
      rw (ap (λ (l : Logbook). stores_made l.events) moved.same) (omega (arith, moved.count))

  -- the value of an accepted call; a look's slot is below 32 then
  value_same :
      (call : Call) → first_no (logbook_questions (book_of b tick cycle events) call) ≡ 0
      → value_of_call b call ≡ logged_value (book_of b tick cycle events) call
  unfolding value_of_call logged_value call_questions
  value_same (read width offset) met = ap (read_bytes width offset) (words_agree b tick cycle events agrees offset)
  value_same (advance ticks) met = stores_same ticks
  value_same (look slot) met = look_agrees b tick cycle events agrees slot (omega (arith, leb-true slot 31 (first_met _ _ _ met)))
  value_same _ met = refl

  pub answer_same : (call : Call) → (board_call b call).answer ≡ logged_answer (book_of b tick cycle events) call
  unfolding board_call
  answer_same call = rw (questions_same call) (same_if_met (logbook_questions (book_of b tick cycle events) call) _ _ (value_same call))

  pub call_agrees : (call : Call) → Related (logged (book_of b tick cycle events) call) (board_call b call).board
  unfolding logged board_call
  call_agrees call =
      both (eqb (first_no (questions_of b call)) 0) (eqb (first_no (logbook_questions (book_of b tick cycle events) call)) 0)
      (ap (λ (questions : List Question). eqb (first_no questions) 0) (questions_same call))
      (λ accepted. happens_agrees call (sym (ap first_no (questions_same call)) ∙ eqb-true (first_no (questions_of b call)) 0 accepted))
      (λ refused. unchanged b tick cycle events agrees)
