-- When a cycle begins and ends, but for the ticks of an advance and for triggers in external trigger only.
use mathlib.Core.Bool.{Bool, true, false, cond, ◌&&◌}
use mathlib.Core.List.{List, [], ◌∷◌, ◌++◌}
use mathlib.Core.Path.{◌≡◌, refl, sym, ap, ◌∙◌}
use Prim.Native.Nat.{ℕ}
use lib.IntN.{ℤ}
use lib.ListN.{set}
use native.Mathlib.Omega.{arith}
use lib.Dec.{eqb}
use borrow.Author.Tests.{eq-eqb, ne_eqb}
use Rattle.std.proofs.lemmas.Bool.{and_parts}
use Rattle.analog.specs.Answers.{first_no, all_met}
use Rattle.analog.proofs.AnswerLaws.{none_first, some_first}
use Rattle.pmc330_model.specs.Map.{if_mailbox, class_of, trigger_field}
use Rattle.pmc330_model.specs.declared.Register.{Register}
use Rattle.pmc330_model.specs.declared.Register.TheVariants.{Interrupt, Control, StartConvert}
use Rattle.pmc330_model.specs.Words.{bit_of, with_word, gains_with, is_release, is_stop, is_start}
use Rattle.pmc330_model.specs.Schedule.{is_burst, is_timed, is_trigger_only, channel_of, code_at}
use Rattle.pmc330_model.specs.Calls.{Call, read, write, input, advance, trigger, reset}
use Rattle.pmc330_model.specs.Questions.{call_questions, resulting_word, has_channels, has_interval}
use Rattle.pmc330_model.specs.Logbook.{Event, CycleSince, idle, since, was_reset, cycle_start, release, was_read, Logbook, stores_since, with_happened, starts, triggered_in, trigger_comes, read_event, writes, happens, is_idle, logbook_questions, logged}
use Rattle.pmc330_model.specs.Sentences.{starts_cycle, stops_or_resets, events_of, cleared_logbook, may_store}
use Rattle.pmc330_model.proofs.Triggers.{timed_not_only}

-- ---- a call, accepted or refused

module _ (l : Logbook) (call : Call) where
  pub accepted_is : all_met (logbook_questions l call) ≡ true → logged l call ≡ happens l call
  unfolding logged
  accepted_is met =
      ap (λ (t : Bool). cond t (happens l call) l)
      (eq-eqb (first_no (logbook_questions l call)) 0 (none_first (logbook_questions l call) met))

  pub refused_is : all_met (logbook_questions l call) ≡ false → logged l call ≡ l
  unfolding logged
  refused_is unmet =
      ap (λ (t : Bool). cond t (happens l call) l)
      (ne_eqb (first_no (logbook_questions l call)) 0 (λ none.
      omega (arith, some_first (logbook_questions l call) unmet)))

-- ---- a start

-- the logbook after it
abbrev begun : Logbook → Logbook
begun l =
    with_happened l l.tick
    (cond (is_burst l.registers) (code_at l.range l.registers l.gains l.inputs (channel_of l.registers 0)) l.taken)
    (since l.tick [])
    (cycle_start ∷ l.events)

starts_is : (l : Logbook) → starts l ≡ begun l
unfolding starts
starts_is l = grind arith

write_starts : (register : Register) (word : ℕ) (l : Logbook) → is_start register word ≡ true → writes register word l ≡ starts l
unfolding writes with_word
write_starts StartConvert word l e = ap (λ (t : Bool). cond t (starts l) l) e
write_starts _ word l e = cc

-- a trigger with field 01 while idle, in a timed mode
idle_is : (cycle : CycleSince) → is_idle cycle ≡ true → cycle ≡ idle
idle_is idle e = refl
idle_is (since T triggers) e = cc

trigger_is : (l : Logbook) → logged l trigger ≡ trigger_comes l
unfolding logged call_questions first_no happens
trigger_is l = refl

all_five : (a b c d e : Bool) → (a && b && c && d && e) ≡ true → (a ≡ true) × (b ≡ true) × (c ≡ true) × (d ≡ true) × (e ≡ true)
all_five a b c d e h = grind arith

trigger_starts : (l : Logbook) → starts_cycle l trigger ≡ true → trigger_comes l ≡ starts l
unfolding trigger_comes
trigger_starts l e =
    let h = all_five _ _ _ _ _ e in
    rw (h.1, idle_is l.cycle h.0, timed_not_only l.registers h.2, h.2, h.3, h.4) refl

pub cycle_starts : (l : Logbook) (call : Call) → starts_cycle l call ≡ true → logged l call ≡ begun l
unfolding happens
cycle_starts l (write width offset value) e =
    accepted_is l (write width offset value) (and_parts _ _ e).0
    ∙ write_starts (class_of offset) (resulting_word l.registers l.gains width offset value) l (and_parts _ _ e).1
    ∙ starts_is l
cycle_starts l trigger e = trigger_is l ∙ trigger_starts l e ∙ starts_is l
cycle_starts l _ e = cc

pub bits_clear : (l : Logbook) (call : Call) → starts_cycle l call ≡ true → (slot : ℕ) → stores_since slot (logged l call).events ≡ 0
unfolding stores_since
bits_clear l call e slot = ap (λ (after : Logbook). stores_since slot after.events) (cycle_starts l call e)

-- ---- a stop and a reset

write_stops : (register : Register) (word : ℕ) (l : Logbook) → is_stop register word ≡ true → (writes register word l).cycle ≡ idle
unfolding writes
write_stops Control word l e = ap (λ (t : Bool). cond t idle l.cycle) e
write_stops _ word l e = cc

-- what the tests of a write say, in whatever order they stand
stop_parts :
    (l : Logbook) (width offset value : ℕ) → stops_or_resets l (write width offset value) ≡ true
    → (all_met (logbook_questions l (write width offset value)) ≡ true)
    × (is_stop (class_of offset) (resulting_word l.registers l.gains width offset value) ≡ true)
stop_parts l width offset value e = grind arith

module _ (l : Logbook) (width offset value : ℕ) (met : all_met (logbook_questions l (write width offset value)) ≡ true) where
  stops_is : stops_or_resets l (write width offset value) ≡ is_stop (class_of offset) (resulting_word l.registers l.gains width offset value)
  stops_is = grind (arith, met)

  starts_as : starts_cycle l (write width offset value) ≡ is_start (class_of offset) (resulting_word l.registers l.gains width offset value)
  starts_as = grind (arith, met)

pub cycle_ends : (l : Logbook) (call : Call) → stops_or_resets l call ≡ true → (logged l call).cycle ≡ idle
unfolding happens all_met call_questions
cycle_ends l (write width offset value) e =
    let parts = stop_parts l width offset value e in
    ap (λ (after : Logbook). after.cycle) (accepted_is l (write width offset value) parts.0)
    ∙ write_stops (class_of offset) (resulting_word l.registers l.gains width offset value) l parts.1
cycle_ends l reset e = ap (λ (after : Logbook). after.cycle) (accepted_is l reset refl)
cycle_ends l _ e = cc

-- ---- every other call

pub no_start : (l : Logbook) → is_trigger_only l.registers ≡ false → starts_cycle l trigger ≡ false → logged l trigger ≡ l
unfolding trigger_comes
no_start l timed none = trigger_is l ∙ go (eqb (trigger_field l.registers.control) 1) l.cycle none
  where
    go :
        (acts : Bool) (cycle : CycleSince)
        → (is_idle cycle && acts && is_timed l.registers && has_channels l.registers && has_interval l.registers) ≡ false
        → cond acts (triggered_in cycle l) l ≡ l
    go false cycle e = refl
    go true idle e = grind arith
    go true (since T triggers) e = grind arith

write_stays :
    (register : Register) (word : ℕ) (l : Logbook) → is_start register word ≡ false → is_stop register word ≡ false
    → (writes register word l).cycle ≡ l.cycle
unfolding writes
write_stays register word l start stop = grind arith

pub cycle_stays :
    (l : Logbook) (call : Call) → starts_cycle l call ≡ false → stops_or_resets l call ≡ false → may_store l.registers call ≡ false
    → (logged l call).cycle ≡ l.cycle
unfolding happens
cycle_stays l (write width offset value) start stop none = go (all_met (logbook_questions l (write width offset value))) refl
  where
    go : (met : Bool) → all_met (logbook_questions l (write width offset value)) ≡ met → (logged l (write width offset value)).cycle ≡ l.cycle
    go false m = ap (λ (after : Logbook). after.cycle) (refused_is l (write width offset value) m)
    go true m =
        ap (λ (after : Logbook). after.cycle) (accepted_is l (write width offset value) m)
        ∙ write_stays (class_of offset) (resulting_word l.registers l.gains width offset value) l
        (sym (starts_as l width offset value m) ∙ start)
        (sym (stops_is l width offset value m) ∙ stop)
cycle_stays l (advance ticks) start stop none = cc
cycle_stays l trigger start stop none = ap (λ (after : Logbook). after.cycle) (no_start l none start)
cycle_stays l reset start stop none = cc
cycle_stays l call start stop none =
    go (all_met (logbook_questions l call)) refl
  where
    go : (met : Bool) → all_met (logbook_questions l call) ≡ met → (logged l call).cycle ≡ l.cycle
    go true m = ap (λ (after : Logbook). after.cycle) (accepted_is l call m)
    go false m = ap (λ (after : Logbook). after.cycle) (refused_is l call m)

-- ---- the events of a call that makes no store

read_events : (register : Register) (events : List Event) → read_event register events ≡ (if_mailbox register (λ slot. was_read slot ∷ []) [] ++ events)
read_events register events = grind arith

write_events :
    (register : Register) (word : ℕ) (l : Logbook)
    → (writes register word l).events
    ≡ (cond (is_start register word) (cycle_start ∷ []) (cond (is_release register word) (release ∷ []) []) ++ l.events)
unfolding writes with_word
write_events Interrupt word l = go (bit_of 15 word)
  where
    go : (is : Bool) → cond is (release ∷ l.events) l.events ≡ (cond is (release ∷ []) [] ++ l.events)
    go true = refl
    go false = refl
write_events StartConvert word l = go (bit_of 0 word)
  where
    go : (is : Bool) → (cond is (starts l) l).events ≡ (cond is (cycle_start ∷ []) [] ++ l.events)
    go true = ap (λ (after : Logbook). after.events) (starts_is l)
    go false = refl
write_events _ word l = refl

trigger_events : (l : Logbook) → is_trigger_only l.registers ≡ false → (logged l trigger).events ≡ (events_of l trigger ++ l.events)
trigger_events l timed = go (starts_cycle l trigger) refl
  where
    go : (starting : Bool) → starts_cycle l trigger ≡ starting → (logged l trigger).events ≡ (cond starting (cycle_start ∷ []) [] ++ l.events)
    go true e = ap (λ (after : Logbook). after.events) (cycle_starts l trigger e)
    go false e = ap (λ (after : Logbook). after.events) (no_start l timed e)

happens_events : (l : Logbook) (call : Call) → may_store l.registers call ≡ false → (happens l call).events ≡ (events_of l call ++ l.events)
unfolding happens
happens_events l (read width offset) none = read_events (class_of offset) l.events
happens_events l (write width offset value) none =
    write_events (class_of offset) (resulting_word l.registers l.gains width offset value) l
happens_events l (advance ticks) none = cc
happens_events l trigger none = ap (λ (after : Logbook). after.events) (sym (trigger_is l)) ∙ trigger_events l none
happens_events l _ none = refl

pub events :
    (l : Logbook) (call : Call) → all_met (logbook_questions l call) ≡ true → may_store l.registers call ≡ false
    → (logged l call).events ≡ (events_of l call ++ l.events)
events l call met none = ap (λ (after : Logbook). after.events) (accepted_is l call met) ∙ happens_events l call none

-- ---- a whole logbook after a call that makes no store and starts no cycle

pub reads :
    (l : Logbook) (width offset : ℕ) → all_met (logbook_questions l (read width offset)) ≡ true
    → logged l (read width offset) ≡ record l { events = events_of l (read width offset) ++ l.events }
unfolding happens
reads l width offset met =
    accepted_is l (read width offset) met ∙ ap (λ (events : List Event). record l { events = events }) (read_events (class_of offset) l.events)

pub inputs :
    (l : Logbook) (channel : ℕ) (microvolts : ℤ) → all_met (logbook_questions l (input channel microvolts)) ≡ true
    → logged l (input channel microvolts) ≡ record l { inputs = set l.inputs channel microvolts }
unfolding happens
inputs l channel microvolts met = accepted_is l (input channel microvolts) met

written_is :
    (l : Logbook) (register : Register) (word : ℕ) → is_start register word ≡ false
    → writes register word l
    ≡ record l {
      registers = with_word register word l.registers;
      gains = gains_with register word l.gains;
      cycle = cond (is_stop register word) idle l.cycle;
      events = cond (is_start register word) (cycle_start ∷ []) (cond (is_release register word) (release ∷ []) []) ++ l.events;
    }
unfolding writes
written_is l register word e = rw e (go (is_release register word))
  where
    after : List Event → Logbook
    after events =
        record l {
          registers = with_word register word l.registers;
          gains = gains_with register word l.gains;
          cycle = cond (is_stop register word) idle l.cycle;
          events = events;
        }

    go : (is : Bool) → after (cond is (release ∷ l.events) l.events) ≡ after (cond is (release ∷ []) [] ++ l.events)
    go true = refl
    go false = refl

pub writes_is :
    (l : Logbook) (width offset value : ℕ) → all_met (logbook_questions l (write width offset value)) ≡ true
    → starts_cycle l (write width offset value) ≡ false
    → logged l (write width offset value)
    ≡ record l {
      registers = with_word (class_of offset) (resulting_word l.registers l.gains width offset value) l.registers;
      gains = gains_with (class_of offset) (resulting_word l.registers l.gains width offset value) l.gains;
      cycle = cond (stops_or_resets l (write width offset value)) idle l.cycle;
      events = events_of l (write width offset value) ++ l.events;
    }
unfolding happens
writes_is l width offset value met none =
    let register : Register = class_of offset in
    let word : ℕ = resulting_word l.registers l.gains width offset value in
    accepted_is l (write width offset value) met
    ∙ written_is l register word (sym (starts_as l width offset value met) ∙ none)
    ∙ ap
    (λ (stops : Bool).
    record l {
      registers = with_word register word l.registers;
      gains = gains_with register word l.gains;
      cycle = cond stops idle l.cycle;
      events = events_of l (write width offset value) ++ l.events;
    })
    (sym (stops_is l width offset value met))

pub resets : (l : Logbook) → logged l reset ≡ cleared_logbook l.range l.inputs (was_reset ∷ l.events)
unfolding happens all_met call_questions
resets l = accepted_is l reset refl
