-- The board's own step for each call. It keeps relative times; that they agree with the schedule is sentence 3.
-- Every definition is total on every Board value: slots and channels count by their remainder by 32.
use Rattle.std.specs.Prelude.{ℕ, ◌+◌, ◌%◌, min, Bool, true, false, not, ◌&&◌, ◌||◌, Option, Some, None, List, [], ◌∷◌, ℤ, pos, slice_index, set, replicate, if◌then◌else◌, ◌==◌, nat_le}
use Rattle.analog.specs.Answers.{Question, question, first_no, answered, Answer}
use Rattle.schedule.specs.Timer.{idle_timer, started_timer, elapsed_by, begun_timer}
use Rattle.schedule.specs.Scan.{Effects, Scan, scan}
use Rattle.schedule.specs.Scan as schedule
use Rattle.schedule.specs.declared.Timer.{Timer}
use Rattle.pmc330_model.specs.Map.{if_mailbox, class_of, trigger_field}
use Rattle.pmc330_model.specs.declared.Register.{Register}
use Rattle.pmc330_model.specs.Words.{View, read_word, look_value, read_bytes, with_word, gains_with, is_release, is_stop, is_start}
use Rattle.pmc330_model.specs.Schedule.{is_differential, is_burst, is_single, is_timed, is_trigger_only, code_at, formatted_by, is_interrupting}
use Rattle.pmc330_model.specs.Plan.{plan_of}
use Rattle.pmc330_model.specs.Calls.{Call, read, write, input, advance, trigger, reset, look, clear}
use Rattle.pmc330_model.specs.Questions.{call_questions, resulting_word, has_channels, has_interval}
use Rattle.pmc330_model.specs.declared.Registers.{Registers}
use Rattle.pmc330_model.specs.declared.Cycle.{Cycle}
use Rattle.pmc330_model.specs.declared.Board.{Board}
use Rattle.pmc330_model.specs.declared.Reply.{Reply}
use Rattle.pmc330_model.specs.declared.Look.{Look}
use Rattle.analog.specs.declared.Refusal.TheVariants.{BadRange}

-- no cycle runs
abbrev pub idle_cycle : Cycle
idle_cycle = record { timer = idle_timer; waiting = false; slot = 0; odd = false }

-- the board with another cycle; with another timer
abbrev pub with_cycle : Board → Cycle → Board
with_cycle b c = record b { cycle = c }

abbrev pub with_timer : Board → Timer → Board
with_timer b t = with_cycle b (record b.cycle { timer = t })

-- a board that is idle, with no store to come and all registers, bits and codes 0; a new board's inputs are 0, and a reset keeps them
abbrev pub cleared_board : (range : ℕ) → (inputs : List ℤ) → Board
cleared_board range inputs =
    record {
      range = range;
      inputs = inputs;
      gains = replicate 32 0;
      codes = replicate 32 0;
      unread = replicate 32 0;
      pending = false;
      registers = record { enable = false; control = 0; prescaler = 0; timer = 0; start = 0; end = 0 };
      taken = 0;
      cycle = idle_cycle;
    }

abbrev pub new_board : (range : ℕ) → Board
new_board range = cleared_board range (replicate 32 (pos 0))

-- a store puts the code in its slot and sets New, and Missed too if New was set already; an interrupting one sets pending
unfoldable pub stored : (slot : ℕ) (ends : Bool) → Board → Board
stored slot ends b =
    record b {
      codes = set b.codes (slot % 32) (formatted_by b.registers b.taken);
      unread = set b.unread (slot % 32) (min 2 (slice_index b.unread (slot % 32) + 1));
      pending = b.pending || is_interrupting b.registers ends;
    }

-- ---- a beginning and a store, beside what they do to the timer

-- the conversion at a place of its pass takes its code, and its slot is noted; if differential, the parity turns after the last one
-- of a pass
unfoldable pub code_taken : (index : ℕ) → Board → Board
code_taken index b =
    record b {
      taken = code_at b.range b.registers b.gains b.inputs ((b.registers.start + index) % 32);
      cycle = record b.cycle {
        waiting = true;
        slot = (b.registers.start + index + (if is_differential b.registers && b.cycle.odd then 16 else 0)) % 32;
        odd = if is_differential b.registers && nat_le (plan_of b.registers).last index then not b.cycle.odd else b.cycle.odd;
      };
    }

-- the next conversion begins
abbrev pub begun : Board → Board
begun b = with_timer (code_taken b.cycle.timer.index b) (begun_timer (plan_of b.registers) b.cycle.timer)

-- the store of the conversion in progress; the last one of a single mode leaves nothing of the cycle
abbrev pub stored_in_time : (ends : Bool) → Board → Board
stored_in_time ends b =
    with_cycle (stored b.cycle.slot ends b)
    (if is_single b.registers && ends then record idle_cycle { timer = b.cycle.timer } else record b.cycle { waiting = false })

-- ---- time

-- what a beginning and a store of a scan do to a board, beside what they do to its timer
abbrev pub board_effects : Effects Board
board_effects = record { taken = code_taken; stored = stored_in_time }

-- a board as a scan (schedule), and a scan as a board: the timer is the scan's, whatever is in its board
abbrev pub scan_of : Board → Scan Board
scan_of b = scan b.cycle.timer b

abbrev pub scanned : Scan Board → Board
scanned s = with_timer s.board s.timer

-- n ticks: in a mode in time those of the scan, one by one; in external trigger only they count down to the next trigger
unfoldable pub advanced : (n : ℕ) → Board → Board
advanced n b =
    if is_timed b.registers then scanned (schedule.advanced (plan_of b.registers) board_effects n (scan_of b))
    else if b.cycle.timer.running then with_timer b (elapsed_by n b.cycle.timer)
    else b

-- and the stores made in them
unfoldable pub stores_in : (n : ℕ) → Board → ℕ
stores_in n b = if is_timed b.registers then schedule.stores_in (plan_of b.registers) board_effects n (scan_of b) else 0

-- the ticks to the next store if only time passes; 0 if the longest advance makes none
abbrev pub next_store : Board → ℕ
next_store b = if is_timed b.registers then schedule.first_store (plan_of b.registers) board_effects 16_777_216 0 (scan_of b) else 0

-- ticks of which 0 says that there are none, as the code has them
abbrev pub if_any : (ticks : ℕ) → Option ℕ
if_any ticks = if ticks == 0 then None else Some ticks

-- a cycle with no conversion begun
abbrev pub fresh_cycle : Registers → Cycle
fresh_cycle r = record idle_cycle { timer = started_timer (plan_of r) }

-- a cycle starts: all New and Missed bits clear
abbrev pub restarted : Board → Board
restarted b = record b { unread = replicate 32 0; cycle = fresh_cycle b.registers }

-- a burst's first beginning is part of the call that starts it
unfoldable pub started : Board → Board
started b = if is_burst b.registers then begun (restarted b) else restarted b

-- a trigger that is taken: first the store of the conversion before, then the next one's code
abbrev pub trigger_taken : Board → Board
trigger_taken b = begun (if b.cycle.waiting then stored b.cycle.slot b.cycle.timer.ends b else b)

-- a trigger before arming: it begins an armed cycle and clears no bit. It stores the code last taken since reset, 0 if none, in the
-- Start Channel's slot, as a store that ends no pass, and takes conversion 0
abbrev pub armed_by_trigger : Board → Board
armed_by_trigger b = begun (with_cycle (stored b.registers.start false b) (fresh_cycle b.registers))

-- a trigger on an idle board: in external trigger only it arms if question 9 is met, in scan 001 to 100 it starts a cycle if 9 and 10
-- are met, and else it is ignored
abbrev pub triggered_idle : Board → Board
triggered_idle b =
    let r : Registers = b.registers in
    if is_trigger_only r then (if has_channels r then armed_by_trigger b else b)
    else if is_timed r && has_channels r && has_interval r then started b
    else b

-- a trigger: taken, the beginning of a cycle, or ignored
unfoldable pub triggered : Board → Board
triggered b =
    let r : Registers = b.registers in
    let is_taken : Bool = is_trigger_only r && b.cycle.timer.lag == 0 in
    if trigger_field r.control == 1
    then (if b.cycle.timer.running then (if is_taken then trigger_taken b else b) else triggered_idle b)
    else b

-- a look changes nothing, a clear drops New and Missed of its slot
abbrev pub after_look : (slot : ℕ) → Board → Board
after_look slot b = b

abbrev pub after_clear : (slot : ℕ) → Board → Board
after_clear slot b = record b { unread = set b.unread slot 0 }

-- a mailbox read of any width leaves the board as a look and then a clear do
abbrev pub after_read : Register → Board → Board
after_read register b = if_mailbox register (λ slot. after_clear slot (after_look slot b)) b

-- an accepted write of a word, before the start that it may make
abbrev pub word_written : Register → (word : ℕ) → Board → Board
word_written register word b =
    record b {
      gains = gains_with register word b.gains;
      pending = b.pending && not (is_release register word);
      registers = with_word register word b.registers;
      cycle = if is_stop register word then idle_cycle else b.cycle;
    }

-- and with it
unfoldable pub after_write : Register → (word : ℕ) → Board → Board
after_write register word b =
    if is_start register word then started (word_written register word b) else word_written register word b

-- what can be seen of the board
abbrev pub view_of : Board → View
view_of b =
    record {
      registers = b.registers;
      gains = b.gains;
      code = λ slot. slice_index b.codes slot;
      is_new = λ slot. nat_le 1 (slice_index b.unread slot);
      is_missed = λ slot. nat_le 2 (slice_index b.unread slot);
      pending = b.pending;
    }

-- the board after an accepted call, and the call's value: what is read or looked at, the number of stores made in an advance, else 0
unfoldable pub after_call : Board → Call → Board
after_call b (read width offset) = after_read (class_of offset) b
after_call b (write width offset value) =
    after_write (class_of offset) (resulting_word b.registers b.gains width offset value) b
after_call b (input channel microvolts) = record b { inputs = set b.inputs channel microvolts }
after_call b (advance ticks) = advanced ticks b
after_call b trigger = triggered b
-- a reset restores a new board, but keeps range and inputs
after_call b reset = cleared_board b.range b.inputs
after_call b (look slot) = after_look slot b
after_call b (clear slot) = after_clear slot b

unfoldable pub value_of_call : Board → Call → ℕ
value_of_call b (read width offset) = read_bytes width offset (read_word (view_of b) (class_of offset))
value_of_call b (advance ticks) = stores_in ticks b
value_of_call b (look slot) = look_value (view_of b) slot
value_of_call b _ = 0

-- the questions of a call on this board
abbrev pub questions_of : Board → Call → List Question
questions_of b call = call_questions b.registers b.gains (not b.cycle.timer.running) call

-- a call; one that is refused leaves the board as it was
unfoldable pub board_call : Board → Call → Reply
board_call b call =
    let questions : List Question = questions_of b call in
    record {
      board = if first_no questions == 0 then after_call b call else b;
      answer = answered questions (value_of_call b call);
    }

-- the calls by name, as the code's promises cite them
abbrev pub read_call : Board → (width offset : ℕ) → Reply
read_call b width offset = board_call b (read width offset)

abbrev pub write_call : Board → (width offset value : ℕ) → Reply
write_call b width offset value = board_call b (write width offset value)

abbrev pub input_call : Board → (channel : ℕ) (microvolts : ℤ) → Reply
input_call b channel microvolts = board_call b (input channel microvolts)

abbrev pub advance_call : Board → (ticks : ℕ) → Reply
advance_call b ticks = board_call b (advance ticks)

abbrev pub trigger_call : Board → Reply
trigger_call b = board_call b trigger

abbrev pub reset_call : Board → Reply
reset_call b = board_call b reset

-- a look answers in a record of its own
abbrev pub look_call : Board → (slot : ℕ) → Look
look_call b slot = record { board = (board_call b (look slot)).board; answer = (board_call b (look slot)).answer }

abbrev pub clear_call : Board → (slot : ℕ) → Reply
clear_call b slot = board_call b (clear slot)

-- 14: a new board's range is 0 to 3; if not, the board handed back is a new one of range 0
abbrev pub new_call : (range : ℕ) → Reply
new_call range =
    record {
      board = new_board (if nat_le range 3 then range else 0);
      answer = answered (question BadRange (nat_le range 3) ∷ []) 0;
    }

-- the same in place of a board; one that is refused leaves it
abbrev pub open_call : Board → (range : ℕ) → Reply
open_call b range = record { board = if nat_le range 3 then new_board range else b; answer = (new_call range).answer }

-- the request line is enable and pending
abbrev pub request_line : Board → Bool
request_line b = b.registers.enable && b.pending

-- each call after the first gets the board that the call before it handed back
unfoldable pub board_from : Board → List Call → Board
board_from b [] = b
board_from b (call ∷ calls) = board_from (board_call b call).board calls

unfoldable pub answers_from : Board → List Call → List Answer
answers_from b [] = []
answers_from b (call ∷ calls) = (board_call b call).answer ∷ answers_from (board_call b call).board calls

-- the board that a list of calls from a new board ends with, and the answers on the way
abbrev pub board_after : (range : ℕ) → List Call → Board
board_after range calls = board_from (new_board range) calls

abbrev pub answers_of : (range : ℕ) → List Call → List Answer
answers_of range calls = answers_from (new_board range) calls
