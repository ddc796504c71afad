-- The board that C holds: what its fields mean, and what a call does to it. A flag is set by any number but 0, so whatever the
-- bytes are, they hold a board.
use Rattle.std.specs.Prelude.{ℕ, Bool, true, false, not, Result, Ok, Err, ⊤, ◌≡◌, ◌≤◌, ◌==◌}
use Rattle.analog.specs.Answers.{Answer, is_accepted, asked}
use Rattle.analog.specs.declared.Refusal.{Refusal}
use Rattle.schedule.specs.declared.Timer.{Timer}
use Rattle.pmc330_model.specs.Board.{board_call, after_write}
use Rattle.pmc330_model.specs.Calls.{Call, read, write, input, advance, trigger, reset, look, clear}
use Rattle.pmc330_model.specs.Questions.{word_questions}
use Rattle.pmc330_model.specs.Words.{to_bit, with_word}
use Rattle.pmc330_model.specs.declared.Register.{Register}
use Rattle.pmc330_model.specs.declared.Registers.{Registers}
use Rattle.pmc330_model.specs.declared.Board.{Board}
use Rattle.pmc330.specs.declared.raw.RawBoard.{RawBoard}

abbrev pub is_set : (flag : ℕ) → Bool
is_set flag = not (flag == 0)

abbrev pub registers_of : RawBoard → Registers
registers_of h =
    record {
      enable = is_set h.enable;
      control = h.control;
      prescaler = h.prescaler;
      timer = h.timer;
      start = h.start;
      end = h.end;
    }

abbrev pub timer_of : RawBoard → Timer
timer_of h = record { running = is_set h.running; lead = h.lead; lag = h.lag; ends = is_set h.ends; index = h.index }

abbrev pub board_of : RawBoard → Board
board_of h =
    record {
      range = h.range;
      inputs = h.inputs;
      gains = h.gains;
      codes = h.codes;
      unread = h.unread;
      pending = is_set h.pending;
      registers = registers_of h;
      taken = h.taken;
      cycle = record { timer = timer_of h; waiting = is_set h.waiting; slot = h.slot; odd = is_set h.odd };
    }

-- a flag's byte is 0 or 1, and the bytes that mean nothing are 0: so is a board that calls made from an opened one
pub record Plain (h : RawBoard) : Type 0 where
  pub enable : h.enable ≤ 1
  pub pending : h.pending ≤ 1
  pub running : h.running ≤ 1
  pub waiting : h.waiting ≤ 1
  pub ends : h.ends ≤ 1
  pub odd : h.odd ≤ 1
  pub spare : h.spare ≡ 0

-- the plain bytes of a board
abbrev pub raw_of : Board → RawBoard
raw_of b =
    record {
      inputs = b.inputs;
      lead = b.cycle.timer.lead;
      lag = b.cycle.timer.lag;
      codes = b.codes;
      control = b.registers.control;
      timer = b.registers.timer;
      taken = b.taken;
      gains = b.gains;
      unread = b.unread;
      range = b.range;
      prescaler = b.registers.prescaler;
      start = b.registers.start;
      end = b.registers.end;
      enable = to_bit b.registers.enable;
      pending = to_bit b.pending;
      running = to_bit b.cycle.timer.running;
      waiting = to_bit b.cycle.waiting;
      slot = b.cycle.slot;
      ends = to_bit b.cycle.timer.ends;
      index = b.cycle.timer.index;
      odd = to_bit b.cycle.odd;
      spare = 0;
    }

-- a read, an input, a look and a clear: of the bytes they change an input's or a count's alone
abbrev pub changes_one : Call → Bool
changes_one (read width offset) = true
changes_one (write width offset value) = false
changes_one (input channel microvolts) = true
changes_one (advance ticks) = false
changes_one trigger = false
changes_one reset = false
changes_one (look slot) = true
changes_one (clear slot) = true

-- a call on a board that is held, whatever its bytes: the answer, the board then, and every byte as it was where it is refused; of a
-- call that changes one input or count every other byte as it was, and what fills the struct in any case. Where the bytes are plain,
-- they are then, and so each of them is settled by the board
pub record Does (call : Call) (before : RawBoard) (told : Answer) (after : RawBoard) : Type 0 where
  pub answer : told ≡ (board_call (board_of before) call).answer
  pub board : board_of after ≡ (board_call (board_of before) call).board
  pub kept : is_accepted told ≡ false → after ≡ before
  pub rest : changes_one call ≡ true → after ≡ record before { inputs = after.inputs; unread = after.unread }
  pub spare : after.spare ≡ before.spare
  pub plain : Plain before → Plain after

-- ---- a write of a word

-- questions 5 to 10, and the board where they are met
pub record Puts (register : Register) (word : ℕ) (before : RawBoard) (told : Result ⊤ Refusal) (after : RawBoard) : Type 0 where
  pub asks :
      told
      ≡ asked (word_questions (registers_of before) (not (is_set before.running)) register word (with_word register word (registers_of before)))
  pub done : told ≡ Ok record {} → board_of after ≡ after_write register word (board_of before)
  pub kept : (refusal : Refusal) → told ≡ Err refusal → after ≡ before
  pub spare : after.spare ≡ before.spare
  pub plain : Plain before → Plain after
