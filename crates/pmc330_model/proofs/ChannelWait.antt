-- How long a channel waits: a continuous scan that nothing ends makes every store of its schedule, at its tick.
use mathlib.Core.Bool.{Bool, true, false, cond, ◌&&◌, ◌||◌}
use mathlib.Core.List.{List, [], ◌∷◌, ◌++◌}
use mathlib.Core.Logic.{◌⊎◌, inl, inr, ⊎_elim}
use mathlib.Core.Path.{◌≡◌, refl, sym, ap, subst, ◌∙◌}
use Prim.Native.Nat.{ℕ, zero, suc, ◌+◌, ◌-◌, ◌*◌, ◌/◌, ◌%◌, ◌≤◌, ◌<◌}
use native.Mathlib.Nat.{eq-or-lt_of_le, add-zero, one-mul, mul-pos, mod-lt, mod-eq_of_lt, div-add-mod'}
use native.Mathlib.Omega.{arith}
use lib.Dec.{eqb}
use borrow.Author.Tests.{eq-eqb, eqb-true, not-true}
use Rattle.std.proofs.lemmas.Bool.{cases_Bool, and_parts, or_right}
use Rattle.analog.specs.Answers.{first_no, all_met}
use Rattle.analog.proofs.AnswerLaws.{some_first}
use Rattle.std.specs.Prelude.{Option, Some, None}
use Rattle.schedule.specs.Schedule.{first_from}
use Rattle.pmc330_model.specs.Map.{class_of, scan_field, word_at}
use Rattle.pmc330_model.specs.declared.Register.{Register}
use Rattle.pmc330_model.specs.declared.Register.TheVariants.{Interrupt, Control, StartConvert}
use Rattle.pmc330_model.specs.Words.{with_word, is_stop, is_start, joined, held_word, written_word}
use Rattle.pmc330_model.specs.Schedule.{pass_length, is_differential, is_uniform, is_single, is_continuous, is_timed, is_trigger_only, is_burst, channel_of, slot_of, ends_pass, begins_at, pass_ticks, is_scheduled}
use Rattle.pmc330_model.specs.Calls.{Call, read, write, input, advance, trigger, reset, look, clear}
use Rattle.pmc330_model.specs.Questions.{is_allowed, resulting_word, call_questions}
use Rattle.pmc330_model.specs.Logbook.{Event, Store, CycleSince, idle, since, cycle_start, store, store_at, Logbook, stores, due_after, if_due, tick_passes, ticks_pass, starts, trigger_comes, writes, happens, is_idle, logbook_questions, logged, logged_from, new_logbook}
use Rattle.pmc330_model.specs.Sentences.{stops_or_resets}
use Rattle.pmc330_model.specs.ChannelWait.{runs_on, CycleList, at_start, at_end, registers_of, RunsContinuously, Span, covers, any_store, span_stores, Scanned, is_slot_of, ChannelWaits, EveryWait, slot_passes, EverySlotWait, EveryBurstWait, short_list, ShortMisses, NoShorterWait}
use Rattle.pmc330_model.specs.Board.{board_after}
use Rattle.pmc330_model.specs.declared.Registers.{Registers}
use Rattle.pmc330_model.proofs.Agreement.{Startable}
use Rattle.pmc330_model.proofs.Passes.{falls, later_begins, later_channel, later_slot, begins_within, stored_within, pass_some}
use Rattle.pmc330_model.proofs.QuestionLaws.{running_allowed, running_unstarted}
use Rattle.pmc330_model.proofs.Scheduled.{ends_cycle, next, tick_is, either, start_still, read_either, triggered, start_cycle, ticks_cycle, scheduled}
use Rattle.pmc330_model.proofs.Sentences.{after, related_call, running_startable}
use Rattle.pmc330_model.proofs.Writes.{enabled, startable_kept, kept_scan}

-- ---- the stores of a list of events

-- a test that another one implies
any_weaker :
    (p q : Store → Bool) → ((s : Store) → p s ≡ true → q s ≡ true) → (events : List Event) → any_store p events ≡ true
    → any_store q events ≡ true
unfolding any_store
any_weaker p q weaker [] e = e
any_weaker p q weaker (Event.was_reset ∷ earlier) e = e
any_weaker p q weaker (cycle_start ∷ earlier) e = e
any_weaker p q weaker (store s ∷ earlier) e = go (p s) refl (any_weaker p q weaker earlier) e
  where
    go :
        (t : Bool) → p s ≡ t → (any_store p earlier ≡ true → any_store q earlier ≡ true) → (t || any_store p earlier) ≡ true
        → (q s || any_store q earlier) ≡ true
    go true passed rest e = ap (λ (t : Bool). t || any_store q earlier) (weaker s passed)
    go false failed rest e = or_right (q s) (any_store q earlier) (rest e)
any_weaker p q weaker (_ ∷ earlier) e = any_weaker p q weaker earlier e

-- the latest store, and those before it
module _ (test : Store → Bool) (s : Store) (events : List Event) where
  any_latest : test s ≡ true → any_store test (store s ∷ events) ≡ true
  unfolding any_store
  any_latest e = ap (λ (t : Bool). t || any_store test events) e

  any_earlier : any_store test events ≡ true → any_store test (store s ∷ events) ≡ true
  unfolding any_store
  any_earlier e = or_right (test s) (any_store test events) e

-- ---- what a span and a stop are

-- a span covers the ticks after its first, up to its end
covered : (t end tick : ℕ) → t < tick → tick ≤ end → covers t end tick ≡ true
covered t end tick later within = grind arith

reset_counts : (l : Logbook) → stops_or_resets l reset ≡ false → ⊥
reset_counts l on = grind arith

-- ---- the modes

-- what any continuous mode is: timed, not single and not external trigger only
record Modes (scan : ℕ) : Type 0 where
  timed : ((eqb scan 1 || eqb scan 2) || (eqb scan 3 || eqb scan 4)) ≡ true
  unended : (eqb scan 2 || eqb scan 4) ≡ false
  untriggered : eqb scan 5 ≡ false

continuous_modes : (r : Registers) → is_continuous r ≡ true → Modes (scan_field r.control)
continuous_modes r e = grind arith

-- the burst modes are not uniform
burst_not_uniform : (r : Registers) → is_burst r ≡ true → is_uniform r ≡ false
burst_not_uniform r e = grind arith

-- a start leaves the registers as they are
start_registers : (l : Logbook) → (starts l).registers ≡ l.registers
unfolding starts
start_registers l = grind arith

-- ---- a scan that runs on

module _ (r : Registers) (T : ℕ) (startable : Startable r) (continuous : is_continuous r ≡ true) where
  modes : Modes (scan_field r.control)
  modes = continuous_modes r continuous

  -- the store of conversion k
  abbrev is_store_of : (k : ℕ) → Store → Bool
  is_store_of k s = eqb s.slot (slot_of r k) && eqb s.tick (T + begins_at r k + 64)

  is_store : (k : ℕ) (s : Store) → s.slot ≡ slot_of r k → s.tick ≡ T + begins_at r k + 64 → is_store_of k s ≡ true
  is_store k s slot tick = grind arith

  -- the cycle runs since T by these registers, but for the board enable, and has made every store that was due
  record Runs (l : Logbook) : Type 0 where
    cycle : l.cycle ≡ since T []
    enable : Bool
    registers : l.registers ≡ enabled r enable
    stored : (k : ℕ) → T + begins_at r k + 64 ≤ l.tick → any_store (is_store_of k) l.events ≡ true

  module _ (l : Logbook) (h : Runs l) where
    begins_same : (k : ℕ) → begins_at l.registers k ≡ begins_at r k
    unfolding begins_at
    begins_same k = grind arith

    slot_same : (k : ℕ) → slot_of l.registers k ≡ slot_of r k
    slot_same k = ap (λ (s : Registers). slot_of s k) h.registers

    -- a tick
    goes_on : (due : Option ℕ) → ends_cycle l.registers due ≡ false
    goes_on None = refl
    goes_on (Some k) =
        ap (λ (t : Bool). t && ends_pass l.registers k) (ap is_single h.registers ∙ modes.unended)

    abbrev due : Option ℕ
    due = due_after 64 l.registers (suc l.tick) l.cycle

    -- the store that conversion k of this logbook makes at the next tick
    abbrev store_next : (k : ℕ) → Store
    store_next k = store_at l.registers (suc l.tick) l.taken (slot_of l.registers k) (ends_pass l.registers k)

    earlier_stored : (test : Store → Bool) → any_store test l.events ≡ true → any_store test (tick_passes l).events ≡ true
    earlier_stored test e = subst (λ (events : List Event). any_store test events ≡ true) (sym (tick_is l due refl).events) (go due)
      where
        go : (d : Option ℕ) → any_store test (if_due d stores (next l)).events ≡ true
        go None = e
        go (Some k) = any_earlier test (store_next k) l.events e

    scheduled_here : (k : ℕ) → is_scheduled l.registers k ≡ true
    scheduled_here k = grind arith

    stored_now : (k : ℕ) → T + begins_at r k + 64 ≡ suc l.tick → any_store (is_store_of k) (tick_passes l).events ≡ true
    stored_now k at =
        let here = scheduled l (λ later triggers running. subst Startable (sym h.registers) (startable_kept r h.enable startable)) in
        let in_cycle = here.timed T [] h.cycle (ap is_timed h.registers ∙ modes.timed) in
        let made = in_cycle.stored k (scheduled_here k) (rw (begins_same k) at) in
        subst (λ (events : List Event). any_store (is_store_of k) events ≡ true) (sym made)
        (any_latest (is_store_of k) (store_next k) l.events (is_store k (store_next k) (slot_same k) (omega (arith, at))))

    tick_runs : Runs (tick_passes l)
    tick_runs =
        let is = tick_is l due refl in
        record {
          cycle = is.cycle ∙ ap (λ (ends : Bool). cond ends idle l.cycle) (goes_on due) ∙ h.cycle;
          enable = h.enable;
          registers = is.registers ∙ h.registers;
          stored = λ k made. stored k (eq-or-lt_of_le (subst (λ (tick : ℕ). T + begins_at r k + 64 ≤ tick) is.tick made));
        }
      where
        stored : (k : ℕ) → (T + begins_at r k + 64 ≡ suc l.tick) ⊎ (T + begins_at r k + 64 < suc l.tick) → any_store (is_store_of k) (tick_passes l).events ≡ true
        stored k (inl now) = stored_now k now
        stored k (inr before) = earlier_stored (is_store_of k) (h.stored k (omega arith))

  ticks_run : (n : ℕ) (l : Logbook) → Runs l → Runs (ticks_pass n l)
  unfolding ticks_pass
  ticks_run zero l h = h
  ticks_run (suc n) l h = ticks_run n (tick_passes l) (tick_runs l h)

  -- a call that leaves tick, cycle and registers as they are, and makes no store
  still : (l after : Logbook) → after.cycle ≡ l.cycle → after.registers ≡ l.registers → after.tick ≡ l.tick
      → ((test : Store → Bool) → any_store test after.events ≡ any_store test l.events) → Runs l → Runs after
  still l after cycle registers tick events h = grind arith

  module _ (l : Logbook) (h : Runs l) where
    -- the board enable, and a release or none
    interrupt_runs : (word : ℕ) → Runs (writes Interrupt word l)
    unfolding writes with_word any_store
    interrupt_runs word = grind arith

    -- a write that question 6 lets through while a cycle runs, and that is no stop
    write_runs :
        (register : Register) (word : ℕ) → is_allowed false register word (with_word register word l.registers) ≡ true
        → is_stop register word ≡ false → is_start register word ≡ false → Runs (writes register word l)
    unfolding writes with_word
    write_runs Interrupt word allowed on unstarted = interrupt_runs word
    write_runs Control word allowed on unstarted = cc (kept_scan word)
    write_runs StartConvert word allowed on unstarted = subst (λ (t : Bool). Runs (cond t (starts l) l)) (sym unstarted) h
    write_runs _ word allowed on unstarted = cc

    -- a trigger is ignored
    trigger_runs : Runs (trigger_comes l)
    trigger_runs =
        triggered Runs l h (λ e only. busy e) (λ e only. busy e)
        (λ later triggers e only field taken. cc modes.untriggered)
      where
        busy : {A : Type 0} → l.cycle ≡ idle → A
        busy e = cc

    accepted_write :
        (width offset value : ℕ) → first_no (logbook_questions l (write width offset value)) ≡ 0
        → stops_or_resets l (write width offset value) ≡ false
        → is_stop (class_of offset) (resulting_word l.registers l.gains width offset value) ≡ false
    accepted_write width offset value met on =
        ⊎_elim
        (λ (all : all_met (logbook_questions l (write width offset value)) ≡ true). grind (arith, all, on))
        (λ (some : all_met (logbook_questions l (write width offset value)) ≡ false).
        absurd
        (omega (
          arith,
          some_first (logbook_questions l (write width offset value)) some,
        )))
        (cases_Bool (all_met (logbook_questions l (write width offset value))))

    happens_runs : (call : Call) → first_no (logbook_questions l call) ≡ 0 → stops_or_resets l call ≡ false → Runs (happens l call)
    unfolding happens any_store
    happens_runs (read width offset) met on =
        still l _ refl refl refl
        (λ test.
        read_either (λ (after : List Event). any_store test after ≡ any_store test l.events) (class_of offset) l.events refl (λ slot. refl))
        h
    happens_runs (write width offset value) met on =
        let running = subst (λ (t : Bool). first_no (call_questions l.registers l.gains t (write width offset value)) ≡ 0) (ap is_idle h.cycle) met in
        write_runs (class_of offset) (resulting_word l.registers l.gains width offset value)
        (running_allowed l.registers l.gains width offset value running)
        (accepted_write width offset value met on)
        (running_unstarted l.registers l.gains width offset value running)
    happens_runs (input channel microvolts) met on = still l _ refl refl refl (λ test. refl) h
    happens_runs (advance ticks) met on = ticks_run ticks l h
    happens_runs trigger met on = trigger_runs
    happens_runs reset met on = absurd (reset_counts l on)
    happens_runs (look slot) met on = h
    happens_runs (clear slot) met on = still l _ refl refl refl (λ test. refl) h

    call_runs : (call : Call) → stops_or_resets l call ≡ false → Runs (logged l call)
    call_runs call on = either Runs l call (λ met. happens_runs call met on) h

  calls_run : (calls : List Call) (l : Logbook) → runs_on l calls ≡ true → Runs l → Runs (logged_from l calls)
  unfolding runs_on logged_from
  calls_run [] l on h = h
  calls_run (call ∷ calls) l on h =
      calls_run calls (logged l call) (and_parts _ _ on).1
      (call_runs l h call (not-true (stops_or_resets l call) (and_parts _ _ on).0))

  -- the cycle has just started
  started_runs : (l : Logbook) → l.tick ≡ T → l.registers ≡ r → Runs (starts l)
  started_runs l at same =
      record {
        cycle = start_cycle (λ (c : CycleSince). c ≡ since T []) l (ap (λ (tick : ℕ). since tick []) at);
        enable = r.enable;
        registers = start_registers l ∙ same;
        stored = λ k made. absurd (omega (arith, (start_still l).tick));
      }

  -- a span of n passes and some ticks more holds a store of a conversion that is stored by the end of the first such span
  module _ (l : Logbook) (h : Runs l) (n more t : ℕ) (some : 0 < n) (from : T ≤ t) (to : t + (n * pass_ticks r + more) ≤ l.tick) where
    span_stores_lem :
        (i : ℕ) → begins_at r i + 64 ≤ n * pass_ticks r + more → (slots : ℕ → Bool)
        → ((q : ℕ) → slots (slot_of r (q * (n * pass_length r) + i)) ≡ true)
        → any_store (λ made. slots made.slot && covers t (t + (n * pass_ticks r + more)) made.tick) l.events ≡ true
    span_stores_lem i first slots fits =
        let f = falls T t (n * pass_ticks r) more (begins_at r i) from (mul-pos some (pass_some r startable.slow)) first in
        let k : ℕ = f.q * (n * pass_length r) + i in
        let at : begins_at r k ≡ f.q * (n * pass_ticks r) + begins_at r i = later_begins r n f.q i in
        any_weaker (is_store_of k) (λ made. slots made.slot && covers t (t + (n * pass_ticks r + more)) made.tick)
        (λ made is.
        inside k made (eqb-true _ _ (and_parts _ _ is).0) (eqb-true _ _ (and_parts _ _ is).1) (fits f.q) (rw at f.after)
        (rw at f.by))
        l.events
        (h.stored k (rw at (omega (arith, f.by))))
      where
        inside :
            (k : ℕ) (made : Store) → made.slot ≡ slot_of r k → made.tick ≡ T + begins_at r k + 64 → slots (slot_of r k) ≡ true
            → t < T + begins_at r k + 64 → T + begins_at r k + 64 ≤ t + (n * pass_ticks r + more)
            → (slots made.slot && covers t (t + (n * pass_ticks r + more)) made.tick) ≡ true
        inside k made at when fit after by = rw (at, fit, covered t (t + (n * pass_ticks r + more)) made.tick (rw when after) (rw when by)) refl

-- ---- the call that starts a cycle

module _ (l : Logbook) (stood : is_idle l.cycle ≡ true) where
  -- a call after which no cycle runs starts none
  abbrev Started : Logbook → Type 0
  Started after = is_idle after.cycle ≡ false → after ≡ starts l

  stands : (after : Logbook) → is_idle after.cycle ≡ true → Started after
  stands after free busy = cc

  write_starts : (register : Register) (word : ℕ) → Started (writes register word l)
  unfolding writes with_word
  write_starts register word = grind arith

  -- in a mode other than external trigger only
  module _ (untriggered : is_trigger_only l.registers ≡ false) where
    happens_starts : (call : Call) → Started (happens l call)
    unfolding happens
    happens_starts (read width offset) = stands _ stood
    happens_starts (write width offset value) =
        write_starts (class_of offset) (resulting_word l.registers l.gains width offset value)
    happens_starts (input channel microvolts) = stands _ stood
    happens_starts (advance ticks) = stands _ (ticks_cycle (λ (c : CycleSince). is_idle c ≡ true) refl ticks l stood)
    happens_starts trigger =
        triggered Started l (stands l stood) (λ e other busy. refl) (λ e only. cc)
        (λ T triggers e. cc)
    happens_starts reset = stands _ refl
    happens_starts (look slot) = stands l stood
    happens_starts (clear slot) = stands _ stood

    call_starts : (call : Call) → Started (logged l call)
    call_starts call = either Started l call (λ met. happens_starts call) (stands l stood)

-- ---- the list

-- a list of calls and then another
joined_calls : (l : Logbook) (calls more : List Call) → logged_from l (calls ++ more) ≡ logged_from (logged_from l calls) more
unfolding logged_from
joined_calls l [] more = refl
joined_calls l (call ∷ calls) more = joined_calls (logged l call) calls more

module _ (c : CycleList) (runs : RunsContinuously c) where
  starts_is : logged (at_start c) c.start ≡ starts (at_start c)
  starts_is =
      call_starts (at_start c) runs.idle_before (continuous_modes (registers_of c) runs.mode).untriggered c.start runs.runs_after

  -- the start met questions 9 and 10
  startable : Startable (registers_of c)
  startable =
      let related = related_call (at_start c) (board_after c.range c.before) (after c.range c.before) c.start in
      subst Startable (ap (λ (l : Logbook). l.registers) starts_is ∙ start_registers (at_start c))
      (running_startable (logged (at_start c) c.start) _ related (at_start c).tick []
      (ap (λ (l : Logbook). l.cycle) starts_is ∙ start_cycle (λ (cycle : CycleSince). cycle ≡ since (at_start c).tick []) (at_start c) refl))

  abbrev RunsHere : Logbook → Type 0
  RunsHere = Runs (registers_of c) (at_start c).tick startable runs.mode

  at_end_lem : RunsHere (at_end c)
  unfolding logged_from
  at_end_lem =
      subst RunsHere (sym (joined_calls (new_logbook c.range) c.before (c.start ∷ c.during)))
      (calls_run (registers_of c) (at_start c).tick startable runs.mode c.during (logged (at_start c) c.start) runs.unstopped
      (subst RunsHere (sym starts_is)
      (started_runs (registers_of c) (at_start c).tick startable runs.mode (at_start c) refl refl)))

-- ---- the theorems

-- a channel's slot, in either half
own_slot : (r : Registers) (channel k : ℕ) → channel_of r k ≡ channel → is_slot_of r channel (slot_of r k) ≡ true
own_slot r channel k e = grind arith

-- the place of a scanned channel, and its stores in a span of one pass and some ticks more
module _ (c : CycleList) (runs : RunsContinuously c) (t channel : ℕ) (scanned : Scanned (registers_of c) channel) where
  abbrev place : ℕ
  place = channel - (registers_of c).start

  place_inside : place < pass_length (registers_of c)
  place_inside = omega (arith, scanned.first, scanned.last)

  channel_stores :
      (more : ℕ) → Span c t (pass_ticks (registers_of c) + more)
      → begins_at (registers_of c) place + 64 ≤ pass_ticks (registers_of c) + more
      → span_stores (is_slot_of (registers_of c) channel) c t (pass_ticks (registers_of c) + more) ≡ true
  channel_stores more span first =
      let r : Registers = registers_of c in
      let one : 1 * pass_ticks r ≡ pass_ticks r = one-mul (pass_ticks r) in
      let own : r.start + place % pass_length r ≡ channel = omega (arith, mod-eq_of_lt place_inside, scanned.first) in
      rw one at
      (span_stores_lem r (at_start c).tick (startable c runs) runs.mode (at_end c) (at_end_lem c runs) 1 more t (omega arith) span.from
      (rw one span.to)
      place
      (rw one first)
      (is_slot_of r channel)
      (λ q. own_slot r channel (q * (1 * pass_length r) + place) (later_channel r 1 q place ∙ own)))

pub waiting_time : EveryWait
waiting_time c runs t channel span scanned =
    let r : Registers = registers_of c in
    let i : ℕ = channel - r.start in
    let inside : i < 1 * pass_length r = omega (arith, place_inside c runs t channel scanned) in
    let first : begins_at r i ≤ 1 * pass_ticks r = begins_within r 1 i inside in
    channel_stores c runs t channel scanned _ span (omega (arith, first))

pub burst_waiting_time : EveryBurstWait
burst_waiting_time c runs burst t channel span scanned =
    let r : Registers = registers_of c in
    let none : pass_ticks r + 0 ≡ pass_ticks r = add-zero (pass_ticks r) in
    let first = stored_within r (burst_not_uniform r burst) (channel - r.start) (place_inside c runs t channel scanned) in
    rw none at
    (channel_stores c runs t channel scanned 0 (rw none span) (rw none first))

pub slot_waiting_time : EverySlotWait
slot_waiting_time c runs t k span =
    let r : Registers = registers_of c in
    let period : ℕ = slot_passes r * pass_length r in
    let i : ℕ = k % period in
    let same : slot_of r k ≡ slot_of r i = sym (ap (slot_of r) (div-add-mod' k period)) ∙ later_slot r (k / period) i in
    let first = begins_within r (slot_passes r) i (mod-lt k (mul-pos (passes_some (is_differential r)) (omega arith))) in
    span_stores_lem r (at_start c).tick (startable c runs) runs.mode (at_end c) (at_end_lem c runs) (slot_passes r) 64 t (passes_some (is_differential r))
    span.from
    span.to
    i
    (omega arith)
    (eqb (slot_of r k))
    (λ q. eq-eqb (slot_of r k) (slot_of r (q * period + i)) (same ∙ sym (later_slot r q i)))
  where
    passes_some : (d : Bool) → 0 < cond d 2 1
    passes_some true = omega arith
    passes_some false = omega arith

pub short_misses : ShortMisses
unfolding any_store runs_on logged_from logged call_questions first_no happens writes with_word word_at class_of joined held_word written_word starts ticks_pass tick_passes due_after first_from begins_at
short_misses = grind arith

-- a longer span covers what a shorter one does
longer_covers : (t end later tick : ℕ) → end ≤ later → covers t end tick ≡ true → covers t later tick ≡ true
longer_covers t end later tick h e = grind arith

module _ (c : CycleList) (t length longer : ℕ) (h : length ≤ longer) where
  shorter_span : Span c t longer → Span c t length
  shorter_span span = grind arith

  longer_stores : (slots : ℕ → Bool) → span_stores slots c t length ≡ true → span_stores slots c t longer ≡ true
  longer_stores slots =
      any_weaker (λ made. slots made.slot && covers t (t + length) made.tick)
      (λ made. slots made.slot && covers t (t + longer) made.tick)
      (λ made e.
      let parts : (slots made.slot ≡ true) × (covers t (t + length) made.tick ≡ true) = and_parts _ _ e in
      rw (parts.0, longer_covers t (t + length) (t + longer) made.tick (omega arith) parts.1))
      (at_end c).events

-- a figure below 64 would make the short span store what it misses
none_shorter :
    (c : CycleList) (t channel more : ℕ) → more < 64 → RunsContinuously c → Scanned (registers_of c) channel
    → Span c t (pass_ticks (registers_of c) + 63)
    → span_stores (is_slot_of (registers_of c) channel) c t (pass_ticks (registers_of c) + 63) ≡ false → ChannelWaits more → ⊥
none_shorter c t channel more less runs scanned span missed waits =
    let pass : ℕ = pass_ticks (registers_of c) in
    let within : pass + more ≤ pass + 63 = omega arith in
    let stored = waits c runs t channel (shorter_span c t (pass + more) (pass + 63) within span) scanned in
    cc (longer_stores c t (pass + more) (pass + 63) within (is_slot_of (registers_of c) channel) stored)

pub no_shorter_wait : NoShorterWait
no_shorter_wait more less =
    none_shorter short_list (at_start short_list).tick 1 more less short_misses.continuous short_misses.scanned short_misses.span
    short_misses.missed
