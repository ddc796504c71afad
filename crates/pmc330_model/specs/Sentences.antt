-- The sentences of the data sheet; how long a channel waits is in ChannelWait.antt. Each `Every..` is proved in
-- proofs/Sentences.antt, those of the next store in proofs/NextStores.antt, those of looks and clears in proofs/Looks.antt.
use Rattle.std.specs.Prelude.{ℕ, suc, ◌+◌, ◌-◌, ◌*◌, ◌/◌, ◌%◌, ◌≤◌, ◌<◌, Bool, true, false, not, ◌&&◌, List, [], ◌∷◌, ◌++◌, ◌≡◌, length, set, replicate, ℤ, pos, Some, Ok, Err, if◌then◌else◌, ◌==◌, nat_le}
use Rattle.analog.specs.Answers.{Question, all_met, value_of, is_accepted}
use Rattle.analog.specs.Sentences.{AnsweredBy}
use Rattle.analog.specs.Sums.{sum_of}
use Rattle.pmc330_model.specs.Map.{if_mailbox, class_of, trigger_field}
use Rattle.pmc330_model.specs.Words.{bit_of, read_bytes, with_word, gains_with, is_release, is_stop, is_start}
use Rattle.pmc330_model.specs.Schedule.{pass_length, is_burst, is_single, is_timed, is_trigger_only, channel_of, slot_of, ends_pass, code_at, begins_at, is_scheduled}
use Rattle.pmc330_model.specs.Calls.{Call, read, write, input, advance, trigger, reset, look, clear}
use Rattle.pmc330_model.specs.Questions.{call_questions, resulting_word, has_channels, has_interval}
use Rattle.pmc330_model.specs.Board.{board_call, new_call, new_board, read_call, advance_call, look_call, clear_call, view_of, request_line, next_store, board_after, answers_of}
use Rattle.pmc330_model.specs.Logbook.{Event, was_reset, cycle_start, release, was_read, store, store_at, idle, since, is_idle, Logbook, last_store, stores_since, interrupted, with_happened, due_after, tick_passes, ticks_pass, logbook_questions, logged, logbook_of, logbook_answers}
use Rattle.pmc330_model.specs.declared.Registers.{Registers}
use Rattle.pmc330_model.specs.declared.Board.{Board}
use Rattle.analog.specs.declared.Refusal.TheVariants.{BadRange}

-- ---- Sentence 1

-- A call on a board, by the questions that it is asked: refused or accepted, with its number and value, as `AnsweredBy` says. If it
-- is refused, the board handed back equals the one handed in
pub record Sentence1 (questions : List Question) (b : Board) (call : Call) : Type 0 where
  pub answer : AnsweredBy questions (board_call b call).answer
  pub board : all_met questions ≡ false → (board_call b call).board ≡ b

-- on every board: the questions are asked of its registers, its gains and whether a cycle runs
abbrev pub EveryCall1 : Type 0
EveryCall1 =
    (b : Board) (call : Call) → Sentence1 (call_questions b.registers b.gains (not b.cycle.timer.running) call) b call

-- after every list of calls: the questions are asked of what the logbook of the list holds, so that "idle" is the logbook's word
abbrev pub AfterList1 : (b : Board) → Logbook → Call → Type 0
AfterList1 b l call = Sentence1 (call_questions l.registers l.gains (is_idle l.cycle) call) b call

abbrev pub EveryList1 : Type 0
EveryList1 =
    (range : ℕ) → range < 4 → (calls : List Call) (next : Call) → AfterList1 (board_after range calls) (logbook_of range calls) next

-- a new board, where none is handed in: refused by 14 with a new board of range 0, else a new board of that range
pub record NewBoard1 (range : ℕ) : Type 0 where
  pub accepted : range ≤ 3 → (new_call range).answer ≡ Ok 0
  pub made : range ≤ 3 → (new_call range).board ≡ new_board range
  pub refused : 3 < range → (new_call range).answer ≡ Err BadRange
  pub board : 3 < range → (new_call range).board ≡ new_board 0

abbrev pub EveryNew1 : Type 0
EveryNew1 = (range : ℕ) → NewBoard1 range

-- ---- Sentence 2

-- number and value of every call of a list are those that the logbook defines
abbrev pub EveryAnswer : Type 0
EveryAnswer = (range : ℕ) → range < 4 → (calls : List Call) → answers_of range calls ≡ logbook_answers range calls

-- ---- Sentence 3

-- a 16-bit read is accepted, and this is a bit of what it gives
pub record ReadsBit (b : Board) (offset place : ℕ) (bit : Bool) : Type 0 where
  pub accepted : is_accepted (read_call b 16 offset).answer ≡ true
  pub shown : bit_of place (value_of (read_call b 16 offset).answer) ≡ bit

-- what a 16-bit read of the board gives is what the logbook's events say
pub record Sentence3 (b : Board) (l : Logbook) : Type 0 where
  -- each mailbox holds the code of the last store made there since the last reset, 0 if none
  pub mailbox : (s : ℕ) → s < 32 → (read_call b 16 (0x80 + 4 * s)).answer ≡ Ok (last_store s l.events)
  -- a New Data bit is set exactly when at least one store in that mailbox, and a Missed Data bit exactly when at least two, followed
  -- the last read of that mailbox, cycle start or reset. A trigger that begins an armed cycle is no cycle start
  pub new_data : (s : ℕ) → s < 32 → ReadsBit b (0x14 + 4 * (s / 16)) (s % 16) (nat_le 1 (stores_since s l.events))
  pub missed_data : (s : ℕ) → s < 32 → ReadsBit b (0x1c + 4 * (s / 16)) (s % 16) (nat_le 2 (stores_since s l.events))
  -- an interrupt is pending exactly when an interrupting store followed the last release or reset
  pub pending : ReadsBit b 0x00 1 (interrupted l.events)
  -- the request line is enable, as it was written, and pending
  pub line : request_line b ≡ (l.registers.enable && interrupted l.events)

-- one claim over the whole list, of any length and with any arguments
abbrev pub EveryList3 : Type 0
EveryList3 = (range : ℕ) → range < 4 → (calls : List Call) → Sentence3 (board_after range calls) (logbook_of range calls)

-- the last conversion of the first pass, and so of a single mode
abbrev pub last_conversion : Registers → ℕ
last_conversion r = pass_length r - 1

-- The stores are those of the schedule and no others. Of a logbook with a cycle of a timed mode, running since T:
pub record InCycle (l : Logbook) (T : ℕ) (triggers : List ℕ) : Type 0 where
  -- what is due at a tick, after a delay, is conversion k exactly when k is scheduled and T + its beginning + the delay is that tick
  pub found :
      (delay tick k : ℕ) → is_scheduled l.registers k ≡ true → T + begins_at l.registers k + delay ≡ tick
      → due_after delay l.registers tick (since T triggers) ≡ Some k
  pub real :
      (delay tick k : ℕ) → due_after delay l.registers tick (since T triggers) ≡ Some k
      → (is_scheduled l.registers k ≡ true) × (T + begins_at l.registers k + delay ≡ tick)
  -- no two conversions begin together, so that at most one is due
  pub one : (i k : ℕ) → begins_at l.registers i ≡ begins_at l.registers k → i ≡ k
  -- so the next tick makes the store of the conversion that began 64 ticks before it, if there is one, and else none
  pub stored :
      (k : ℕ) → is_scheduled l.registers k ≡ true → T + begins_at l.registers k + 64 ≡ suc l.tick
      → (tick_passes l).events
      ≡ (store (store_at l.registers (suc l.tick) l.taken (slot_of l.registers k) (ends_pass l.registers k)) ∷ l.events)
  pub unstored :
      ((k : ℕ) → is_scheduled l.registers k ≡ true → T + begins_at l.registers k + 64 ≡ suc l.tick → ⊥)
      → (tick_passes l).events ≡ l.events
  -- and it takes the code of the conversion that begins at it, if there is one, and else none
  pub begun :
      (k : ℕ) → is_scheduled l.registers k ≡ true → T + begins_at l.registers k ≡ suc l.tick
      → (tick_passes l).taken ≡ code_at l.range l.registers l.gains l.inputs (channel_of l.registers k)
  pub unbegun :
      ((k : ℕ) → is_scheduled l.registers k ≡ true → T + begins_at l.registers k ≡ suc l.tick → ⊥)
      → (tick_passes l).taken ≡ l.taken
  -- a tick ends the cycle where it makes a single mode's last store, and at no other tick
  pub ended :
      is_single l.registers ≡ true → T + begins_at l.registers (last_conversion l.registers) + 64 ≡ suc l.tick
      → (tick_passes l).cycle ≡ idle
  pub unended :
      (is_single l.registers ≡ true → T + begins_at l.registers (last_conversion l.registers) + 64 ≡ suc l.tick → ⊥)
      → (tick_passes l).cycle ≡ l.cycle
  -- and nothing else moves
  pub else_kept : tick_passes l ≡ with_happened l (suc l.tick) (tick_passes l).taken (tick_passes l).cycle (tick_passes l).events

-- the calls that may make a store: an advance, and a trigger in external trigger only
abbrev pub may_store : Registers → Call → Bool
may_store r (advance ticks) = true
may_store r trigger = is_trigger_only r
may_store r _ = false

-- a call that leaves the tick as it is where it is accepted: an advance moves it, and a reset begins at 0 again
abbrev pub is_timeless : Call → Bool
is_timeless (advance ticks) = false
is_timeless reset = false
is_timeless _ = true

-- the stores among the events
unfoldable pub stores_among : List Event → List Event
stores_among [] = []
stores_among (store s ∷ earlier) = store s ∷ stores_among earlier
stores_among (_ ∷ earlier) = stores_among earlier

-- ---- when a cycle begins and ends

-- The calls that start a cycle, which is a cycle start among the events: an accepted write of Start Convert with bit 0 set; while idle
-- with trigger field 01, in scan 001 to 100, a trigger, if questions 9 and 10 are met
abbrev pub starts_cycle : Logbook → Call → Bool
starts_cycle l (write width offset value) =
    all_met (logbook_questions l (write width offset value))
    && is_start (class_of offset) (resulting_word l.registers l.gains width offset value)
starts_cycle l trigger =
    is_idle l.cycle
    && trigger_field l.registers.control == 1
    && is_timed l.registers
    && has_channels l.registers
    && has_interval l.registers
starts_cycle l _ = false

-- The calls that end one: a write of Control with scan 000, if it is accepted, and a reset
abbrev pub stops_or_resets : Logbook → Call → Bool
stops_or_resets l (write width offset value) =
    all_met (logbook_questions l (write width offset value))
    && is_stop (class_of offset) (resulting_word l.registers l.gains width offset value)
stops_or_resets l reset = true
stops_or_resets l _ = false

-- the events of an accepted call that makes no store: the read of a mailbox, for which a clear counts as well, a release, a cycle
-- start and a reset
abbrev pub events_of : Logbook → Call → List Event
events_of l (read width offset) = if_mailbox (class_of offset) (λ slot. was_read slot ∷ []) []
events_of l (write width offset value) =
    let word : ℕ = resulting_word l.registers l.gains width offset value in
    if is_start (class_of offset) word then cycle_start ∷ []
    else if is_release (class_of offset) word then release ∷ []
    else []
events_of l trigger = if starts_cycle l trigger then cycle_start ∷ [] else []
events_of l reset = was_reset ∷ []
events_of l (clear slot) = was_read slot ∷ []
events_of l _ = []

-- no cycle runs, and tick, registers, gains and the code last taken are 0
abbrev pub cleared_logbook : (range : ℕ) (inputs : List ℤ) (events : List Event) → Logbook
cleared_logbook range inputs events =
    record {
      range = range;
      registers = record { enable = false; control = 0; prescaler = 0; timer = 0; start = 0; end = 0 };
      gains = replicate 32 0;
      inputs = inputs;
      tick = 0;
      taken = 0;
      cycle = idle;
      events = events;
    }

-- Of a logbook: when a cycle begins and ends. It has its T from the call that begins it and keeps it, and a timed one is as above
pub record Scheduled (l : Logbook) : Type 0 where
  -- A start: the cycle runs since this tick, no trigger is taken in it, and the cycle start is the one event. A burst takes
  -- conversion 0's code. All else is as it was
  pub cycle_starts :
      (call : Call) → starts_cycle l call ≡ true
      → logged l call
      ≡ with_happened l l.tick
      (if is_burst l.registers then code_at l.range l.registers l.gains l.inputs (channel_of l.registers 0) else l.taken)
      (since l.tick [])
      (cycle_start ∷ l.events)
  -- no New or Missed bit is set then
  pub bits_clear : (call : Call) → starts_cycle l call ≡ true → (slot : ℕ) → stores_since slot (logged l call).events ≡ 0
  -- a stop and a reset: no cycle runs
  pub cycle_ends : (call : Call) → stops_or_resets l call ≡ true → (logged l call).cycle ≡ idle
  -- outside external trigger only a trigger that starts no cycle changes nothing
  pub no_start : is_trigger_only l.registers ≡ false → starts_cycle l trigger ≡ false → logged l trigger ≡ l
  -- every other call keeps the cycle, but for the ticks of an advance and for a trigger in external trigger only, all said below
  pub cycle_stays :
      (call : Call) → starts_cycle l call ≡ false → stops_or_resets l call ≡ false → may_store l.registers call ≡ false
      → (logged l call).cycle ≡ l.cycle
  -- the events of a call that makes no store are its own and no others
  pub events :
      (call : Call) → all_met (logbook_questions l call) ≡ true → may_store l.registers call ≡ false
      → (logged l call).events ≡ (events_of l call ++ l.events)
  -- a read moves nothing but them, an input its channel's voltage alone, and a write that starts no cycle what its register holds
  pub reads :
      (width offset : ℕ) → all_met (logbook_questions l (read width offset)) ≡ true
      → logged l (read width offset) ≡ record l { events = events_of l (read width offset) ++ l.events }
  pub inputs :
      (channel : ℕ) (microvolts : ℤ) → all_met (logbook_questions l (input channel microvolts)) ≡ true
      → logged l (input channel microvolts) ≡ record l { inputs = set l.inputs channel microvolts }
  pub writes :
      (width offset value : ℕ) → all_met (logbook_questions l (write width offset value)) ≡ true
      → starts_cycle l (write width offset value) ≡ false
      → logged l (write width offset value)
      ≡ record l {
        registers = with_word (class_of offset) (resulting_word l.registers l.gains width offset value) l.registers;
        gains = gains_with (class_of offset) (resulting_word l.registers l.gains width offset value) l.gains;
        cycle = if stops_or_resets l (write width offset value) then idle else l.cycle;
        events = events_of l (write width offset value) ++ l.events;
      }
  -- a reset keeps range and inputs, and the earlier events; all else is 0 again, the code last taken among it
  pub resets : logged l reset ≡ cleared_logbook l.range l.inputs (was_reset ∷ l.events)
  -- a cycle begins with no trigger taken, or in external trigger only with the one that begins it. An advance begins none
  pub started :
      (call : Call) (T : ℕ) (triggers : List ℕ) → l.cycle ≡ idle → (logged l call).cycle ≡ since T triggers
      → (T ≡ l.tick) × (triggers ≡ (if may_store l.registers call then l.tick ∷ [] else []))
  pub kept :
      (call : Call) (T later : ℕ) (triggers more : List ℕ) → l.cycle ≡ since T triggers → (logged l call).cycle ≡ since later more
      → later ≡ T
  pub timed : (T : ℕ) (triggers : List ℕ) → l.cycle ≡ since T triggers → is_timed l.registers ≡ true → InCycle l T triggers
  -- otherwise a tick makes no store and takes no code
  pub untimed : is_timed l.registers ≡ false → tick_passes l ≡ with_happened l (suc l.tick) l.taken l.cycle l.events
  pub while_idle : l.cycle ≡ idle → tick_passes l ≡ with_happened l (suc l.tick) l.taken l.cycle l.events
  -- a call after which no cycle runs keeps the code last taken, but for an advance and a reset; so a stop forgets none
  pub code_kept : (call : Call) → is_timeless call ≡ true → (logged l call).cycle ≡ idle → (logged l call).taken ≡ l.taken
  -- external trigger only: the first trigger of a cycle that Start Convert armed takes conversion 0's code
  pub first :
      (T : ℕ) → l.cycle ≡ since T [] → is_trigger_only l.registers ≡ true → trigger_field l.registers.control ≡ 1
      → logged l trigger
      ≡ with_happened l l.tick (code_at l.range l.registers l.gains l.inputs (channel_of l.registers 0))
      (since T (l.tick ∷ []))
      l.events
  -- a later one that is taken stores the conversion before and takes the next one's code
  pub taken :
      (T last : ℕ) (earlier : List ℕ) → l.cycle ≡ since T (last ∷ earlier) → is_trigger_only l.registers ≡ true
      → trigger_field l.registers.control ≡ 1 → 64 ≤ l.tick - last
      → logged l trigger
      ≡ with_happened l l.tick (code_at l.range l.registers l.gains l.inputs (channel_of l.registers (suc (length earlier))))
      (since T (l.tick ∷ last ∷ earlier))
      (store (store_at l.registers l.tick l.taken (slot_of l.registers (length earlier)) (ends_pass l.registers (length earlier)))
      ∷ l.events)
  -- a trigger before arming, if question 9 is met: it stores the code last taken since reset, 0 if none, formatted, in the Start
  -- Channel's slot and takes conversion 0. The store ends no pass and is the only event: there is no cycle start
  pub unarmed :
      l.cycle ≡ idle → is_trigger_only l.registers ≡ true → trigger_field l.registers.control ≡ 1
      → has_channels l.registers ≡ true
      → logged l trigger
      ≡ with_happened l l.tick (code_at l.range l.registers l.gains l.inputs (channel_of l.registers 0))
      (since l.tick (l.tick ∷ []))
      (store (store_at l.registers l.tick l.taken l.registers.start false) ∷ l.events)
  -- every other trigger in this mode changes nothing
  pub ignored :
      is_trigger_only l.registers ≡ true
      → ((T : ℕ) → l.cycle ≡ since T [] → trigger_field l.registers.control ≡ 1 → ⊥)
      → ((T last : ℕ) (earlier : List ℕ) → l.cycle ≡ since T (last ∷ earlier) → trigger_field l.registers.control ≡ 1 → 64 ≤ l.tick - last → ⊥)
      → (l.cycle ≡ idle → trigger_field l.registers.control ≡ 1 → has_channels l.registers ≡ true → ⊥)
      → logged l trigger ≡ l
  -- no other call makes a store but an advance
  pub other_calls : (call : Call) → may_store l.registers call ≡ false → stores_among (logged l call).events ≡ stores_among l.events

-- the logbook of no calls: a new board's
abbrev pub EveryOpening : Type 0
EveryOpening = (range : ℕ) → logbook_of range [] ≡ cleared_logbook range (replicate 32 (pos 0)) (was_reset ∷ [])

abbrev pub EverySchedule : Type 0
EverySchedule = (range : ℕ) → range < 4 → (calls : List Call) → Scheduled (logbook_of range calls)

-- So after a start the board shows no New and no Missed bit, in any slot
pub record BitsClear (b : Board) (s : ℕ) : Type 0 where
  pub new_data : ReadsBit b (0x14 + 4 * (s / 16)) (s % 16) false
  pub missed_data : ReadsBit b (0x1c + 4 * (s / 16)) (s % 16) false

abbrev pub EveryStart : Type 0
EveryStart =
    (range : ℕ) → range < 4 → (calls : List Call) (call : Call) → starts_cycle (logbook_of range calls) call ≡ true
    → (s : ℕ) → s < 32 → BitsClear (board_call (board_after range calls) call).board s

-- An accepted advance of n counts as n ticks, a refused call as none. These are the ticks one by one, with their stores
pub record TicksCounted (l : Logbook) : Type 0 where
  pub passed :
      (n : ℕ) → all_met (call_questions l.registers l.gains (is_idle l.cycle) (advance n)) ≡ true
      → logged l (advance n) ≡ ticks_pass n l
  pub advanced :
      (n : ℕ) → all_met (call_questions l.registers l.gains (is_idle l.cycle) (advance n)) ≡ true
      → (logged l (advance n)).tick ≡ l.tick + n
  pub refused :
      (call : Call) → all_met (call_questions l.registers l.gains (is_idle l.cycle) call) ≡ false → logged l call ≡ l
  pub others : (call : Call) → is_timeless call ≡ true → (logged l call).tick ≡ l.tick

abbrev pub EveryTick : Type 0
EveryTick = (l : Logbook) → TicksCounted l

-- ---- jumps in time

-- two advances whose sum is accepted: each is accepted, they end where the sum does, and their stores add up
pub record Joined (b : Board) (n k : ℕ) : Type 0 where
  pub first : is_accepted (advance_call b n).answer ≡ true
  pub second : is_accepted (advance_call (advance_call b n).board k).answer ≡ true
  pub board : (advance_call (advance_call b n).board k).board ≡ (advance_call b (n + k)).board
  pub value :
      value_of (advance_call b n).answer + value_of (advance_call (advance_call b n).board k).answer
      ≡ value_of (advance_call b (n + k)).answer

abbrev pub EveryPair : Type 0
EveryPair = (b : Board) (n k : ℕ) → is_accepted (advance_call b (n + k)).answer ≡ true → Joined b n k

-- and any list of advances whose sum is accepted
unfoldable pub board_after_advances : Board → List ℕ → Board
board_after_advances b [] = b
board_after_advances b (n ∷ ns) = board_after_advances (advance_call b n).board ns

unfoldable pub value_of_advances : Board → List ℕ → ℕ
value_of_advances b [] = 0
value_of_advances b (n ∷ ns) = value_of (advance_call b n).answer + value_of_advances (advance_call b n).board ns

abbrev pub AllAccepted : Board → List ℕ → Type 0
AllAccepted b [] = Unit
AllAccepted b (n ∷ ns) = (is_accepted (advance_call b n).answer ≡ true) × AllAccepted (advance_call b n).board ns

pub record AllJoined (b : Board) (ns : List ℕ) : Type 0 where
  pub accepted : AllAccepted b ns
  pub board : board_after_advances b ns ≡ (advance_call b (sum_of ns)).board
  pub value : value_of_advances b ns ≡ value_of (advance_call b (sum_of ns)).answer

abbrev pub EveryAdvances : Type 0
EveryAdvances = (ns : List ℕ) (b : Board) → is_accepted (advance_call b (sum_of ns)).answer ≡ true → AllJoined b ns

-- ---- the next store

-- an advance of fewer ticks makes no store, one of exactly that many makes one; 0: no advance makes any
pub record NextStore (b : Board) (n : ℕ) : Type 0 where
  pub fewer : (ticks : ℕ) → ticks < n → (advance_call b ticks).answer ≡ Ok 0
  pub exact : 0 < n → (advance_call b n).answer ≡ Ok 1
  pub none : n ≡ 0 → (ticks : ℕ) → value_of (advance_call b ticks).answer ≡ 0

abbrev pub EveryNextStore : Type 0
EveryNextStore = (b : Board) → NextStore b (next_store b)

-- after every list of calls, 0 means more: none comes in any number of advances, however far they reach together
abbrev pub EveryLastStore : Type 0
EveryLastStore =
    (range : ℕ) → range < 4 → (calls : List Call) → next_store (board_after range calls) ≡ 0
    → (ns : List ℕ) → value_of_advances (board_after range calls) ns ≡ 0

-- ---- looks and clears

-- a look, at any slot of any board, changes nothing
abbrev pub EveryLook : Type 0
EveryLook = (b : Board) (slot : ℕ) → (look_call b slot).board ≡ b

-- after every list of calls it gives the code, New and Missed that the logbook's events say
abbrev pub EveryLookShown : Type 0
EveryLookShown =
    (range : ℕ) → range < 4 → (calls : List Call) (slot : ℕ) → slot < 32
    → (look_call (board_after range calls) slot).answer
    ≡ Ok (last_store slot (logbook_of range calls).events
    + (if nat_le 1 (stores_since slot (logbook_of range calls).events) then 65_536 else 0)
    + (if nat_le 2 (stores_since slot (logbook_of range calls).events) then 131_072 else 0))

-- a clear counts as a read of that slot's mailbox; a look is no event
pub record SlotLogged (l : Logbook) (slot : ℕ) : Type 0 where
  pub looked : logged l (look slot) ≡ l
  pub cleared : slot < 32 → logged l (clear slot) ≡ logged l (read 16 (0x80 + 4 * slot))

abbrev pub EverySlotLogged : Type 0
EverySlotLogged = (l : Logbook) (slot : ℕ) → SlotLogged l slot

-- a mailbox read leaves the board as a look and then a clear do; its value is the bytes of the code that its width covers
pub record LookAndClear (b : Board) (width offset slot : ℕ) : Type 0 where
  pub looked : is_accepted (look_call b slot).answer ≡ true
  pub cleared : is_accepted (clear_call (look_call b slot).board slot).answer ≡ true
  pub board : (read_call b width offset).board ≡ (clear_call (look_call b slot).board slot).board
  pub value : (read_call b width offset).answer ≡ Ok (read_bytes width offset ((view_of b).code slot))

-- every accepted mailbox read: of any board, of any width, at either live byte
abbrev pub EveryMailboxRead : Type 0
EveryMailboxRead =
    (b : Board) (width slot byte : ℕ) → slot < 32 → byte < 2
    → is_accepted (read_call b width (0x80 + 4 * slot + byte)).answer ≡ true
    → LookAndClear b width (0x80 + 4 * slot + byte) slot
