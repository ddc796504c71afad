-- The logbook: a definition that is fed the new board's range and then the calls with their arguments in order, and nothing else.
-- Its numbers have no bound. It knows nothing of the board's own state.
use Rattle.std.specs.Prelude.{ℕ, zero, suc, ◌+◌, ◌-◌, Bool, true, false, ◌&&◌, ◌||◌, Option, Some, None, List, [], ◌∷◌, ℤ, pos, set, replicate, length, if◌then◌else◌, ◌==◌, nat_le}
use Rattle.analog.specs.Answers.{Question, first_no, answered, Answer}
use Rattle.pmc330_model.specs.Map.{if_mailbox, class_of, trigger_field}
use Rattle.pmc330_model.specs.declared.Register.{Register}
use Rattle.pmc330_model.specs.Words.{View, read_word, look_value, read_bytes, with_word, gains_with, is_release, is_stop, is_start}
use Rattle.schedule.specs.Schedule.{first_from}
use Rattle.pmc330_model.specs.Schedule.{is_burst, is_single, is_timed, is_trigger_only, channel_of, slot_of, ends_pass, code_at, formatted_by, is_interrupting, begins_at, is_scheduled}
use Rattle.pmc330_model.specs.Calls.{Call, read, write, input, advance, trigger, reset, look, clear}
use Rattle.pmc330_model.specs.Questions.{call_questions, resulting_word, has_channels, has_interval}
use Rattle.pmc330_model.specs.declared.Registers.{Registers}

-- a store: its slot, its code in the format, whether it interrupts, and its tick, counted from the last reset as the logbook's own is
pub record Store : Type 0 where
  pub slot : ℕ
  pub code : ℕ
  pub interrupts : Bool
  pub tick : ℕ

-- the events; a clear counts as a read of that slot's mailbox
pub data Event : Type 0 where
  was_reset cycle_start release : Event
  was_read : (slot : ℕ) → Event
  store : Store → Event

-- the running cycle, if any: T, the tick at which it started, and the ticks of the triggers taken in it, the latest first
pub data CycleSince : Type 0 where
  idle : CycleSince
  since : (T : ℕ) (triggers : List ℕ) → CycleSince

-- the registers are as they were written; `taken` is the code last taken; of the events the latest comes first
pub record Logbook : Type 0 where
  pub range : ℕ
  pub registers : Registers
  pub gains : List ℕ
  pub inputs : List ℤ
  pub tick : ℕ
  pub taken : ℕ
  pub cycle : CycleSince
  pub events : List Event

-- it opens with the range, no cycle, the event of a reset, and all else 0
abbrev pub opened : (range : ℕ) → (inputs : List ℤ) → (earlier : List Event) → Logbook
opened range inputs earlier =
    record {
      range = range;
      registers = record { enable = false; control = 0; prescaler = 0; timer = 0; start = 0; end = 0 };
      gains = replicate 32 0;
      inputs = inputs;
      tick = 0;
      taken = 0;
      cycle = idle;
      events = was_reset ∷ earlier;
    }

-- ---- what the events say, for sentence 3

-- the code of the last store in a mailbox since the last reset, 0 if none
unfoldable pub last_store : (slot : ℕ) → List Event → ℕ
last_store slot [] = 0
last_store slot (was_reset ∷ earlier) = 0
last_store slot (store s ∷ earlier) = if s.slot == slot then s.code else last_store slot earlier
last_store slot (_ ∷ earlier) = last_store slot earlier

-- the number of stores in a mailbox since its last read, cycle start or reset
unfoldable pub stores_since : (slot : ℕ) → List Event → ℕ
stores_since slot [] = 0
stores_since slot (was_reset ∷ earlier) = 0
stores_since slot (cycle_start ∷ earlier) = 0
stores_since slot (release ∷ earlier) = stores_since slot earlier
stores_since slot (was_read s ∷ earlier) = if s == slot then 0 else stores_since slot earlier
stores_since slot (store s ∷ earlier) = (if s.slot == slot then 1 else 0) + stores_since slot earlier

-- an interrupt is pending exactly when an interrupting store followed the last release or reset
unfoldable pub interrupted : List Event → Bool
interrupted [] = false
interrupted (was_reset ∷ earlier) = false
interrupted (release ∷ earlier) = false
interrupted (store s ∷ earlier) = s.interrupts || interrupted earlier
interrupted (_ ∷ earlier) = interrupted earlier

-- all stores
unfoldable pub stores_made : List Event → ℕ
stores_made [] = 0
stores_made (store s ∷ earlier) = suc (stores_made earlier)
stores_made (_ ∷ earlier) = stores_made earlier

-- what a board with these events shows through its registers, and to a look
abbrev pub logbook_view : Logbook → View
logbook_view l =
    record {
      registers = l.registers;
      gains = l.gains;
      code = λ slot. last_store slot l.events;
      is_new = λ slot. nat_le 1 (stores_since slot l.events);
      is_missed = λ slot. nat_le 2 (stores_since slot l.events);
      pending = interrupted l.events;
    }

-- ---- what happens in it

-- the logbook with another tick, cycle, code last taken and events
abbrev pub with_happened : Logbook → (tick taken : ℕ) → CycleSince → List Event → Logbook
with_happened l tick taken cycle events =
    record l { tick = tick; taken = taken; cycle = cycle; events = events }

-- conversion k begins: it takes its code
abbrev pub begins : (k : ℕ) → Logbook → Logbook
begins k l =
    with_happened l l.tick
    (code_at l.range l.registers l.gains l.inputs (channel_of l.registers k))
    l.cycle
    l.events

-- a store at a tick, in a slot: the code last taken, in the format then in force, and whether it interrupts, by these registers
abbrev pub store_at : Registers → (tick taken slot : ℕ) (ends : Bool) → Store
store_at r tick taken slot ends =
    record { slot = slot; code = formatted_by r taken; interrupts = is_interrupting r ends; tick = tick }

-- the logbook after such a store, at its own tick
abbrev pub stores_at : (slot : ℕ) (ends : Bool) → Logbook → Logbook
stores_at slot ends l =
    with_happened l l.tick l.taken l.cycle (store (store_at l.registers l.tick l.taken slot ends) ∷ l.events)

-- conversion k is stored
abbrev pub stores : (k : ℕ) → Logbook → Logbook
stores k l = stores_at (slot_of l.registers k) (ends_pass l.registers k) l

-- the same in time: in single modes the last store ends the cycle
abbrev pub stores_in_time : (k : ℕ) → Logbook → Logbook
stores_in_time k l =
    with_happened (stores k l) l.tick l.taken
    (if is_single l.registers && ends_pass l.registers k then idle else l.cycle)
    (stores k l).events

-- the conversion k of the schedule with T + its beginning + delay = tick, if any.
-- Conversion k begins at T + k or later, so that the numbers up to the tick are enough to search: `InCycle` in Sentences states it
unfoldable pub due_after : (delay : ℕ) → Registers → (tick : ℕ) → CycleSince → Option ℕ
due_after delay r tick idle = None
due_after delay r tick (since T triggers) =
    first_from (λ k. is_scheduled r k && T + begins_at r k + delay == tick) (suc tick) 0

abbrev pub if_due : Option ℕ → (ℕ → Logbook → Logbook) → Logbook → Logbook
if_due None f l = l
if_due (Some k) f l = f k l

-- a conversion is stored 64 ticks after it began
abbrev pub stores_due : Logbook → Logbook
stores_due l = if_due (due_after 64 l.registers l.tick l.cycle) stores_in_time l

abbrev pub begins_due : Logbook → Logbook
begins_due l = if_due (due_after 0 l.registers l.tick l.cycle) begins l

-- the tick goes up by 1, then comes the store that is due at it, if any, then the beginning, if any
unfoldable pub tick_passes : Logbook → Logbook
tick_passes l = begins_due (stores_due (with_happened l (suc l.tick) l.taken l.cycle l.events))

-- an advance of n from tick t: the ticks t + 1 to t + n
unfoldable pub ticks_pass : (n : ℕ) → Logbook → Logbook
ticks_pass zero l = l
ticks_pass (suc n) l = ticks_pass n (tick_passes l)

-- a cycle starts at this tick, a burst with its first beginning
unfoldable pub starts : Logbook → Logbook
starts l =
    let fresh : Logbook = with_happened l l.tick l.taken (since l.tick []) (cycle_start ∷ l.events) in
    if is_burst l.registers then begins 0 fresh else fresh

-- a trigger is taken if it is the first in its cycle, or comes 64 or more ticks after the last one taken in it
abbrev pub is_taken : (tick : ℕ) (triggers : List ℕ) → Bool
is_taken tick [] = true
is_taken tick (last ∷ earlier) = nat_le 64 (tick - last)

-- the j-th taken trigger, from 0, stores conversion j - 1, if there is one
abbrev pub stores_before : (j : ℕ) → Logbook → Logbook
stores_before zero l = l
stores_before (suc k) l = stores k l

-- and takes conversion j's code; it is then one of the triggers taken
abbrev pub takes_code : (T : ℕ) (triggers : List ℕ) → Logbook → Logbook
takes_code T triggers l =
    let after : Logbook = begins (length triggers) l in
    with_happened after l.tick after.taken (since T (l.tick ∷ triggers)) after.events

-- first its store, then its code
abbrev pub takes : (T : ℕ) (triggers : List ℕ) → Logbook → Logbook
takes T triggers l = takes_code T triggers (stores_before (length triggers) l)

-- a trigger before arming: it begins an armed cycle at this tick, and is no cycle start. It stores the code last taken since reset, 0 if
-- none, in the Start Channel's slot, as a store that ends no pass, and takes conversion 0
abbrev pub arms_by_trigger : Logbook → Logbook
arms_by_trigger l = takes_code l.tick [] (stores_at l.registers.start false l)

-- idle: in external trigger only the trigger arms if question 9 is met, in scan 001 to 100 it starts a cycle if 9 and 10 are met.
-- Running: in external trigger only it may be taken. Otherwise it is ignored
abbrev pub triggered_in : CycleSince → Logbook → Logbook
triggered_in idle l =
    if is_trigger_only l.registers then (if has_channels l.registers then arms_by_trigger l else l)
    else if is_timed l.registers && has_channels l.registers && has_interval l.registers then starts l
    else l
triggered_in (since T triggers) l =
    if is_trigger_only l.registers && is_taken l.tick triggers then takes T triggers l else l

-- a trigger acts only with trigger field 01
unfoldable pub trigger_comes : Logbook → Logbook
trigger_comes l = if trigger_field l.registers.control == 1 then triggered_in l.cycle l else l

-- a read of a mailbox is an event with its slot, any other is none
abbrev pub read_event : Register → List Event → List Event
read_event register events = if_mailbox register (λ slot. was_read slot ∷ events) events

-- the register takes the word. Interrupt with bit 15 set is a release, Control with scan 000 ends the cycle, Start Convert with bit 0
-- set starts one
unfoldable pub writes : Register → (word : ℕ) → Logbook → Logbook
writes register word l =
    let written : Logbook = record l {
      registers = with_word register word l.registers;
      gains = gains_with register word l.gains;
      cycle = if is_stop register word then idle else l.cycle;
      events = if is_release register word then release ∷ l.events else l.events;
    } in
    if is_start register word then starts written else written

-- an accepted call
unfoldable pub happens : Logbook → Call → Logbook
happens l (read width offset) =
    with_happened l l.tick l.taken l.cycle (read_event (class_of offset) l.events)
happens l (write width offset value) =
    writes (class_of offset) (resulting_word l.registers l.gains width offset value) l
happens l (input channel microvolts) = record l { inputs = set l.inputs channel microvolts }
happens l (advance ticks) = ticks_pass ticks l
happens l trigger = trigger_comes l
-- a reset: it opens anew, and keeps range, inputs and earlier events
happens l reset = opened l.range l.inputs l.events
-- a look is no event, a clear is a read of that slot's mailbox
happens l (look slot) = l
happens l (clear slot) = with_happened l l.tick l.taken l.cycle (was_read slot ∷ l.events)

-- the questions are asked of what it holds
abbrev pub is_idle : CycleSince → Bool
is_idle idle = true
is_idle (since T triggers) = false

abbrev pub logbook_questions : Logbook → Call → List Question
logbook_questions l call = call_questions l.registers l.gains (is_idle l.cycle) call

-- the logbook after a call; one that is refused changes nothing
unfoldable pub logged : Logbook → Call → Logbook
logged l call = if first_no (logbook_questions l call) == 0 then happens l call else l

-- the value of an accepted call; of an advance the number of stores made in it
unfoldable pub logged_value : Logbook → Call → ℕ
logged_value l (read width offset) = read_bytes width offset (read_word (logbook_view l) (class_of offset))
logged_value l (advance ticks) = stores_made (ticks_pass ticks l).events - stores_made l.events
logged_value l (look slot) = look_value (logbook_view l) slot
logged_value l _ = 0

abbrev pub logged_answer : Logbook → Call → Answer
logged_answer l call = answered (logbook_questions l call) (logged_value l call)

unfoldable pub logged_from : Logbook → List Call → Logbook
logged_from l [] = l
logged_from l (call ∷ calls) = logged_from (logged l call) calls

unfoldable pub logged_answers_from : Logbook → List Call → List Answer
logged_answers_from l [] = []
logged_answers_from l (call ∷ calls) = logged_answer l call ∷ logged_answers_from (logged l call) calls

-- the logbook of a list of calls to a new board of a range, and the answers that it gives
abbrev pub new_logbook : (range : ℕ) → Logbook
new_logbook range = opened range (replicate 32 (pos 0)) []

abbrev pub logbook_of : (range : ℕ) → List Call → Logbook
logbook_of range calls = logged_from (new_logbook range) calls

abbrev pub logbook_answers : (range : ℕ) → List Call → List Answer
logbook_answers range calls = logged_answers_from (new_logbook range) calls
