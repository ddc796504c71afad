-- A look changes nothing and shows what the events say; a clear is logged as a read; a mailbox read is a look and
-- then a clear.
use mathlib.Core.Path.{◌≡◌, refl, sym, ap, ◌∙◌}
use Prim.Native.Nat.{ℕ, ◌+◌, ◌*◌, ◌<◌}
use native.Mathlib.Omega.{arith}
use lib.Dec.{eqb}
use borrow.Author.Tests.{le-leb}
use Rattle.analog.specs.Answers.{first_no, is_accepted}
use Rattle.analog.proofs.AnswerLaws.{accepted_none}
use Rattle.pmc330_model.specs.Map.{class_of}
use Rattle.pmc330_model.specs.declared.Register.{Register}
use Rattle.pmc330_model.specs.declared.Register.TheVariants.{Mailbox}
use Rattle.pmc330_model.specs.Words.{read_word, look_value, read_bytes}
use Rattle.pmc330_model.specs.Calls.{read, look, clear}
use Rattle.pmc330_model.specs.Questions.{slot_questions, call_questions}
use Rattle.pmc330_model.specs.Board.{view_of, after_read, after_clear, after_call, value_of_call, questions_of, board_call, look_call, clear_call, board_after}
use Rattle.pmc330_model.specs.Logbook.{Logbook, logbook_view, happens, logbook_questions, logged}
use Rattle.pmc330_model.specs.Sentences.{EveryLook, EveryLookShown, EverySlotLogged, EveryMailboxRead}
use Rattle.pmc330_model.specs.declared.Board.{Board}
use Rattle.pmc330_model.specs.declared.Reply.{Reply}
use Rattle.pmc330_model.proofs.Cases.{either_way}
use Rattle.pmc330_model.proofs.Reading.{class_is, mailbox_at, word_met, look_agrees}
use Rattle.pmc330_model.proofs.Replies.{accepted_reply}
use Rattle.pmc330_model.proofs.Sentences.{after}
use Rattle.std.specs.Prelude.{Ok}

-- a slot of the board meets question 22
slot_met : (slot : ℕ) → slot < 32 → first_no (slot_questions slot) ≡ 0
unfolding first_no
slot_met slot h = rw (le-leb slot 31 (omega arith))

-- either live byte of a mailbox
mailbox_byte : (slot byte : ℕ) → slot < 32 → byte < 2 → class_of (0x80 + 4 * slot + byte) ≡ Mailbox slot
mailbox_byte slot byte h live = class_is (0x20 + slot) byte (0x80 + 4 * slot + byte) live (omega arith) ∙ (mailbox_at slot h).is

-- ---- the board

pub looks_change_nothing : EveryLook
unfolding board_call after_call
looks_change_nothing b slot = grind arith

look_shows : (b : Board) (slot : ℕ) → slot < 32 → (look_call b slot).answer ≡ Ok (look_value (view_of b) slot)
unfolding call_questions value_of_call
look_shows b slot h = sym (ap (λ (r : Reply). r.answer) (accepted_reply b (look slot) _ _ (slot_met slot h) refl refl))

clear_reply : (b : Board) (slot : ℕ) → slot < 32 → ◌≡◌ {A = Reply} (record { board = after_clear slot b; answer = Ok 0 }) (clear_call b slot)
unfolding call_questions after_call value_of_call
clear_reply b slot h = accepted_reply b (clear slot) _ _ (slot_met slot h) refl refl

-- an accepted read, by the register that its offset belongs to
read_reply :
    (b : Board) (width offset : ℕ) (register : Register) → class_of offset ≡ register → first_no (questions_of b (read width offset)) ≡ 0
    → ◌≡◌ {A = Reply} (record { board = after_read register b; answer = Ok (read_bytes width offset (read_word (view_of b) register)) })
    (board_call b (read width offset))
unfolding after_call value_of_call
read_reply b width offset register class none =
    accepted_reply b (read width offset) _ _ none (ap (λ (x : Register). after_read x b) (sym class))
    (ap (λ (x : Register). read_bytes width offset (read_word (view_of b) x)) (sym class))

pub mailbox_reads : EveryMailboxRead
unfolding board_call read_word
mailbox_reads b width slot byte h live accepted =
    let none = accepted_none (questions_of b (read width (0x80 + 4 * slot + byte))) _ accepted in
    let taken = read_reply b width (0x80 + 4 * slot + byte) (Mailbox slot) (mailbox_byte slot byte h live) none in
    let cleared = clear_reply (look_call b slot).board slot h in
    record {
      looked = ap is_accepted (look_shows b slot h);
      cleared = sym (ap (λ (r : Reply). is_accepted r.answer) cleared);
      board =
          sym (ap (λ (r : Reply). r.board) taken)
          ∙ ap (after_clear slot) (sym (looks_change_nothing b slot))
          ∙ ap (λ (r : Reply). r.board) cleared;
      value = sym (ap (λ (r : Reply). r.answer) taken);
    }

-- ---- the logbook

pub looks_show : EveryLookShown
looks_show range valid calls slot h =
    let r = after range calls in
    look_shows (board_after range calls) slot h
    ∙ ap Ok (look_agrees (board_after range calls) r.tick r.cycle r.events r.agrees slot h
    ∙ ap (λ (l : Logbook). look_value (logbook_view l) slot) (sym r.same))

clear_logged : (l : Logbook) (slot : ℕ) → slot < 32 → logged l (clear slot) ≡ happens l (clear slot)
unfolding logged call_questions
clear_logged l slot h = rw (slot_met slot h)

read_logged : (l : Logbook) (slot : ℕ) → slot < 32 → logged l (read 16 (0x80 + 4 * slot)) ≡ happens l (clear slot)
unfolding logged call_questions happens
read_logged l slot h =
    rw (word_met (0x20 + slot) (0x80 + 4 * slot) (Mailbox slot) (omega arith) (mailbox_at slot h), class_is (0x20 + slot) 0 (0x80 + 4 * slot) (omega arith) (omega arith), (mailbox_at slot h).is)

pub slots_logged : EverySlotLogged
unfolding logged happens
slots_logged l slot =
    record {
      looked = either_way (eqb (first_no (logbook_questions l (look slot))) 0) l;
      cleared = λ h. clear_logged l slot h ∙ sym (read_logged l slot h);
    }
