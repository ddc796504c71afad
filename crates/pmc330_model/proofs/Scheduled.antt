-- The stores of a logbook are those of the schedule, and its ticks those of the accepted advances.
use mathlib.Core.Bool.{Bool, true, false, not, cond, ◌&&◌, ◌||◌}
use mathlib.Core.List.{List, [], ◌∷◌}
use mathlib.Core.Logic.{⊎_elim}
use mathlib.Core.Path.{◌≡◌, refl, sym, ap, subst, ◌∙◌}
use Prim.Native.Nat.{ℕ, zero, suc, ◌+◌, ◌-◌, ◌%◌, ◌≤◌, ◌<◌}
use native.Mathlib.Nat.{add-zero, add-suc, suc-add, mod-eq_of_lt}
use native.Mathlib.Omega.{arith}
use lib.Dec.{eqb, ltb, leb}
use lib.ListN.{length}
use borrow.Author.Tests.{eq-eqb, eqb-true, lt-ltb, ltb-true, le-leb, leb-true}
use Rattle.std.proofs.lemmas.Bool.{cases_lt, cases_Bool, and_parts}
use Rattle.analog.specs.Answers.{first_no, all_met}
use Rattle.std.specs.Prelude.{Option, Some, None}
use Rattle.schedule.specs.Schedule.{first_from}
use Rattle.pmc330_model.specs.Map.{class_of, trigger_field}
use Rattle.pmc330_model.specs.declared.Register.{Register}
use Rattle.pmc330_model.specs.Words.{is_release, is_stop, is_start}
use Rattle.pmc330_model.specs.Schedule.{pass_length, is_single, is_timed, is_trigger_only, channel_of, ends_pass, code_at, begins_at, is_scheduled}
use Rattle.pmc330_model.specs.Calls.{Call, read, write, advance, trigger, reset}
use Rattle.pmc330_model.specs.Questions.{call_questions, resulting_word, has_channels, has_interval}
use Rattle.pmc330_model.specs.Logbook.{Event, CycleSince, idle, since, release, was_read, Logbook, with_happened, begins, stores, due_after, if_due, stores_in_time, stores_due, begins_due, tick_passes, ticks_pass, starts, is_taken, stores_before, takes, arms_by_trigger, triggered_in, trigger_comes, read_event, writes, happens, is_idle, logbook_questions, logged}
use Rattle.pmc330_model.specs.Sentences.{last_conversion, InCycle, may_store, stores_among, Scheduled, is_timeless, EveryTick}
use Rattle.pmc330_model.specs.declared.Registers.{Registers}
use Rattle.pmc330_model.proofs.Agreement.{Startable}
use Rattle.pmc330_model.proofs.Cycles.{accepted_is, refused_is, cycle_starts, bits_clear, cycle_ends, no_start, cycle_stays, events, reads, inputs, writes_is, resets}
use Rattle.pmc330_model.proofs.Due.{due_found, due_none, untimed_due, unscheduled_later, scheduled_next}
use Rattle.pmc330_model.proofs.QuestionLaws.{running_unstarted}
use Rattle.pmc330_model.proofs.Schedule.{before}

-- ---- the search

-- what the search finds passes the test
search_real : (test : ℕ → Bool) (n from k : ℕ) → first_from test n from ≡ Some k → test k ≡ true
unfolding first_from
search_real test zero from k e = cc
search_real test (suc n) from k e = go (test from) refl (search_real test n (suc from) k) e
  where
    go :
        (t : Bool) → test from ≡ t → (first_from test n (suc from) ≡ Some k → test k ≡ true)
        → cond t (Some from) (first_from test n (suc from)) ≡ Some k → test k ≡ true
    go true here later e = let same : from ≡ k = cc in subst (λ (i : ℕ). test i ≡ true) same here
    go false here later e = later e

-- ---- a tick

-- the tick before its store, and after it
abbrev pub next : Logbook → Logbook
next l = with_happened l (suc l.tick) l.taken l.cycle l.events

-- a beginning is no event, takes no time and leaves the cycle
record Same (before after : Logbook) : Type 0 where
  registers : after.registers ≡ before.registers
  events : after.events ≡ before.events
  tick : after.tick ≡ before.tick
  cycle : after.cycle ≡ before.cycle

begins_same : (l : Logbook) → Same l (begins_due l)
begins_same l = grind arith

-- whether the store that is due ends a single cycle
abbrev pub ends_cycle : Registers → Option ℕ → Bool
ends_cycle r None = false
ends_cycle r (Some k) = is_single r && ends_pass r k

-- the store that is due is the tick's one event
pub record Stored (l after : Logbook) (due : Option ℕ) : Type 0 where
  pub registers : after.registers ≡ l.registers
  pub events : after.events ≡ (if_due due stores (next l)).events
  pub tick : after.tick ≡ suc l.tick
  pub cycle : after.cycle ≡ cond (ends_cycle l.registers due) idle l.cycle

pub tick_is : (l : Logbook) (due : Option ℕ) → due_after 64 l.registers (suc l.tick) l.cycle ≡ due → Stored l (tick_passes l) due
unfolding tick_passes
tick_is l due e = grind arith

-- a tick moves the tick, the code, the cycle and the events alone
abbrev moved : Logbook → (stored due : Option ℕ) → Logbook
moved l stored due = if_due due begins (if_due stored stores_in_time (next l))

moved_is :
    (l : Logbook) (stored due : Option ℕ)
    → moved l stored due ≡ with_happened l (suc l.tick) (moved l stored due).taken (moved l stored due).cycle (moved l stored due).events
moved_is l None None = refl
moved_is l None (Some k) = refl
moved_is l (Some j) None = refl
moved_is l (Some j) (Some k) = refl

tick_keeps : (l : Logbook) → tick_passes l ≡ with_happened l (suc l.tick) (tick_passes l).taken (tick_passes l).cycle (tick_passes l).events
unfolding tick_passes
tick_keeps l =
    let made : Logbook = stores_due (next l) in
    moved_is l (due_after 64 l.registers (suc l.tick) l.cycle) (due_after 0 made.registers made.tick made.cycle)

-- the code that the tick takes, by what begins at it once the store is made
tick_taken :
    (l : Logbook) (stored due : Option ℕ) → due_after 64 l.registers (suc l.tick) l.cycle ≡ stored
    → due_after 0 l.registers (suc l.tick) (cond (ends_cycle l.registers stored) idle l.cycle) ≡ due
    → (tick_passes l).taken ≡ (if_due due begins l).taken
unfolding tick_passes
tick_taken l stored due e f = grind arith

-- a tick at which nothing is due
tick_none : (l : Logbook) → ((delay : ℕ) → due_after delay l.registers (suc l.tick) l.cycle ≡ None) → tick_passes l ≡ next l
unfolding tick_passes
tick_none l h = grind arith

-- an idle board has no conversion in time
idle_due : (delay : ℕ) (r : Registers) (tick : ℕ) (cycle : CycleSince) → cycle ≡ idle → due_after delay r tick cycle ≡ None
unfolding due_after
idle_due delay r tick cycle e = ap (due_after delay r tick) e

-- ---- a timed cycle

-- the last conversion of the first pass ends it, and in a single mode no other does
last_ends : (r : Registers) → ends_pass r (last_conversion r) ≡ true
last_ends r =
    let inside : last_conversion r < pass_length r = omega arith in
    eq-eqb (last_conversion r % pass_length r + 1) (pass_length r) (omega (arith, mod-eq_of_lt inside))

single_last :
    (r : Registers) → is_single r ≡ true → (j : ℕ) → is_scheduled r j ≡ true → ends_pass r j ≡ true
    → j ≡ last_conversion r
single_last r single j scheduled last =
    let within : ltb j (pass_length r) ≡ true = subst (λ (t : Bool). (is_timed r && (not t || ltb j (pass_length r))) ≡ true → ltb j (pass_length r) ≡ true) (sym single) (λ h. (and_parts (is_timed r) (ltb j (pass_length r)) h).1) scheduled in
    let inside : j < pass_length r = ltb-true j (pass_length r) within in
    let ends : j % pass_length r + 1 ≡ pass_length r = eqb-true _ _ last in
    omega (arith, mod-eq_of_lt inside)

module _ (l : Logbook) (T : ℕ) (triggers : List ℕ) (running : l.cycle ≡ since T triggers) (timed : is_timed l.registers ≡ true)
    (startable : Startable l.registers) where
  abbrev r : Registers
  r = l.registers

  real :
      (delay tick k : ℕ) → due_after delay r tick (since T triggers) ≡ Some k
      → (is_scheduled r k ≡ true) × (T + begins_at r k + delay ≡ tick)
  unfolding due_after
  real delay tick k e =
      let passed = search_real (λ i. is_scheduled r i && eqb (T + begins_at r i + delay) tick) (suc tick) 0 k e in
      let at = eqb (T + begins_at r k + delay) tick in
      ((and_parts _ _ passed).0, eqb-true _ _ (and_parts _ _ passed).1)

  one : (i k : ℕ) → begins_at r i ≡ begins_at r k → i ≡ k
  one i k e =
      ⊎_elim
      (λ (less : i < k). absurd (omega (arith, before r timed startable i k less)))
      (λ (least : k ≤ i).
      ⊎_elim
      (λ (more : k < i). absurd (omega (arith, before r timed startable k i more)))
      (λ (most : i ≤ k). omega arith)
      (cases_lt k i))
      (cases_lt i k)

  -- a conversion that begins later has a number above
  after : (j k : ℕ) → begins_at r j + 64 ≡ begins_at r k → suc j ≤ k
  after j k e =
      ⊎_elim
      (λ (less : j < k). less)
      (λ (least : k ≤ j).
      ⊎_elim
      (λ (more : k < j). absurd (omega (arith, before r timed startable k j more)))
      (λ (most : j ≤ k). let same : j ≡ k = omega arith in absurd (omega (arith, ap (begins_at r) same)))
      (cases_lt k j))
      (cases_lt j k)

  found_now : (delay k : ℕ) → is_scheduled r k ≡ true → T + begins_at r k + delay ≡ suc l.tick → due_after delay r (suc l.tick) l.cycle ≡ Some k
  found_now delay k scheduled at =
      ap (due_after delay r (suc l.tick)) running ∙ due_found r startable timed T delay (suc l.tick) triggers k scheduled at

  none_now :
      (delay : ℕ) → ((k : ℕ) → is_scheduled r k ≡ true → T + begins_at r k + delay ≡ suc l.tick → ⊥)
      → due_after delay r (suc l.tick) l.cycle ≡ None
  none_now delay fails = ap (due_after delay r (suc l.tick)) running ∙ due_none r startable timed T delay (suc l.tick) triggers fails

  -- the store of a tick at which a conversion begins does not end the cycle: the one that begins is scheduled later
  goes_on :
      (k : ℕ) → is_scheduled r k ≡ true → T + begins_at r k ≡ suc l.tick
      → (due : Option ℕ) → due_after 64 r (suc l.tick) l.cycle ≡ due → ends_cycle r due ≡ false
  goes_on k scheduled at None e = refl
  goes_on k scheduled at (Some j) e =
      let stored = real 64 (suc l.tick) j (sym (ap (due_after 64 r (suc l.tick)) running) ∙ e) in
      let less : suc j ≤ k = after j k (omega (arith, stored.1)) in
      ⊎_elim
      (λ (last : (is_single r && ends_pass r j) ≡ true).
      let off : is_scheduled r (suc j) ≡ false = scheduled_next r timed j stored.0 ∙ ap not last in
      cc (unscheduled_later r timed (suc j) k off less))
      (λ (more : (is_single r && ends_pass r j) ≡ false). more)
      (cases_Bool (is_single r && ends_pass r j))

  begun :
      (k : ℕ) → is_scheduled r k ≡ true → T + begins_at r k ≡ suc l.tick
      → (tick_passes l).taken ≡ code_at l.range r l.gains l.inputs (channel_of r k)
  begun k scheduled at =
      tick_taken l (due_after 64 r (suc l.tick) l.cycle) (Some k) refl
      (ap (λ (t : Bool). due_after 0 r (suc l.tick) (cond t idle l.cycle))
      (goes_on k scheduled at (due_after 64 r (suc l.tick) l.cycle) refl)
      ∙ found_now 0 k scheduled (add-zero (T + begins_at r k) ∙ at))

  unbegun : ((k : ℕ) → is_scheduled r k ≡ true → T + begins_at r k ≡ suc l.tick → ⊥) → (tick_passes l).taken ≡ l.taken
  unbegun fails = tick_taken l (due_after 64 r (suc l.tick) l.cycle) None refl (go (ends_cycle r (due_after 64 r (suc l.tick) l.cycle)))
    where
      go : (ends : Bool) → due_after 0 r (suc l.tick) (cond ends idle l.cycle) ≡ None
      go true = idle_due 0 r (suc l.tick) idle refl
      go false = none_now 0 (λ k scheduled at. fails k scheduled (sym (add-zero (T + begins_at r k)) ∙ at))

  -- the last store of a single mode, and no other, ends the cycle
  ended :
      is_single r ≡ true → T + begins_at r (last_conversion r) + 64 ≡ suc l.tick → (tick_passes l).cycle ≡ idle
  ended single at =
      (tick_is l (Some (last_conversion r)) (found_now 64 (last_conversion r) scheduled at)).cycle ∙ rw (single, last_ends r) refl
    where
      scheduled : is_scheduled r (last_conversion r) ≡ true
      scheduled = rw (timed, single) (lt-ltb (last_conversion r) (pass_length r) (omega arith))

  unended :
      (is_single r ≡ true → T + begins_at r (last_conversion r) + 64 ≡ suc l.tick → ⊥) → (tick_passes l).cycle ≡ l.cycle
  unended fails = go (due_after 64 r (suc l.tick) l.cycle) refl
    where
      goes : (j : ℕ) → is_scheduled r j ≡ true → T + begins_at r j + 64 ≡ suc l.tick → (single last : Bool) → is_single r ≡ single → ends_pass r j ≡ last → (single && last) ≡ false
      goes j scheduled at true true s e =
          absurd (fails s (subst (λ (k : ℕ). T + begins_at r k + 64 ≡ suc l.tick) (single_last r s j scheduled e) at))
      goes j scheduled at true false s e = refl
      goes j scheduled at false last s e = refl

      go : (due : Option ℕ) → due_after 64 r (suc l.tick) l.cycle ≡ due → (tick_passes l).cycle ≡ l.cycle
      go None e = (tick_is l None e).cycle
      go (Some j) e =
          let stored = real 64 (suc l.tick) j (sym (ap (due_after 64 r (suc l.tick)) running) ∙ e) in
          (tick_is l (Some j) e).cycle
          ∙ ap (λ (t : Bool). cond t idle l.cycle) (goes j stored.0 stored.1 (is_single r) (ends_pass r j) refl refl)

  in_cycle : InCycle l T triggers
  in_cycle =
      record {
        found = λ delay tick k. due_found r startable timed T delay tick triggers k;
        real = real;
        one = one;
        stored = λ k scheduled at. (tick_is l (Some k) (found_now 64 k scheduled at)).events;
        unstored = λ fails. (tick_is l None (none_now 64 fails)).events;
        begun = begun;
        unbegun = unbegun;
        ended = ended;
        unended = unended;
        else_kept = tick_keeps l;
      }

-- ---- a call: what it leaves as it is

-- what holds of a logbook before a call and after it has happened holds after the call, refused or not
pub either : (P : Logbook → Type 0) (l : Logbook) (call : Call) → (first_no (logbook_questions l call) ≡ 0 → P (happens l call)) → P l → P (logged l call)
unfolding logged
either P l call happened before = grind arith

-- a start makes no store and takes no time
pub record Still (before after : Logbook) : Type 0 where
  pub made : stores_among after.events ≡ stores_among before.events
  pub tick : after.tick ≡ before.tick

pub start_still : (l : Logbook) → Still l (starts l)
unfolding starts stores_among
start_still l = grind arith

if_starts : (l written : Logbook) (start : Bool) → Still l written → Still l (cond start (starts written) written)
if_starts l written true h =
    record { made = (start_still written).made ∙ h.made; tick = (start_still written).tick ∙ h.tick }
if_starts l written false h = h

-- what holds of some events, and of them after a read of any slot, holds after a read of any register
pub read_either :
    (P : List Event → Type 0) (register : Register) (events : List Event) → P events → ((slot : ℕ) → P (was_read slot ∷ events))
    → P (read_event register events)
read_either P register events same more = grind arith

write_still : (register : Register) (word : ℕ) (l : Logbook) → Still l (writes register word l)
unfolding writes stores_among
write_still register word l = if_starts l _ (is_start register word) (record { made = released (is_release register word); tick = refl })
  where
    released : (r : Bool) → stores_among (cond r (release ∷ l.events) l.events) ≡ stores_among l.events
    released true = refl
    released false = refl

-- ---- a trigger

-- what holds of a logbook, of its start or its arming where it is idle, and of a trigger taken where it is armed, holds after a
-- trigger
pub triggered :
    (P : Logbook → Type 0) (l : Logbook) → P l → (l.cycle ≡ idle → is_trigger_only l.registers ≡ false → P (starts l))
    → (l.cycle ≡ idle → is_trigger_only l.registers ≡ true → P (arms_by_trigger l))
    → ((T : ℕ) (triggers : List ℕ) → l.cycle ≡ since T triggers → is_trigger_only l.registers ≡ true
    → trigger_field l.registers.control ≡ 1 → is_taken l.tick triggers ≡ true → P (takes T triggers l))
    → P (trigger_comes l)
unfolding trigger_comes
triggered P l before started armed taken = go (eqb (trigger_field l.registers.control) 1) refl l.cycle refl
  where
    beginning :
        l.cycle ≡ idle → (only channels start : Bool) → is_trigger_only l.registers ≡ only
        → P (cond only (cond channels (arms_by_trigger l) l) (cond start (starts l) l))
    beginning e true true start o = armed e o
    beginning e true false start o = before
    beginning e false channels true o = started e o
    beginning e false channels false o = before

    taking : (T : ℕ) (triggers : List ℕ) → l.cycle ≡ since T triggers → trigger_field l.registers.control ≡ 1 → (only on-time : Bool) → is_trigger_only l.registers ≡ only → is_taken l.tick triggers ≡ on-time → P (cond (only && on-time) (takes T triggers l) l)
    taking T triggers e field true true o t = taken T triggers e o field t
    taking T triggers e field true false o t = before
    taking T triggers e field false on-time o t = before

    go : (acts : Bool) → eqb (trigger_field l.registers.control) 1 ≡ acts → (cycle : CycleSince) → l.cycle ≡ cycle → P (cond acts (triggered_in cycle l) l)
    go false e cycle c = before
    go true e idle c =
        beginning c (is_trigger_only l.registers) (has_channels l.registers)
        (is_timed l.registers && has_channels l.registers && has_interval l.registers)
        refl
    go true e (since T triggers) c = taking T triggers c (eqb-true _ _ e) (is_trigger_only l.registers) (is_taken l.tick triggers) refl refl

-- the store of a trigger takes no time
before_tick : (j : ℕ) (l : Logbook) → (stores_before j l).tick ≡ l.tick
before_tick j l = grind arith

trigger_tick : (l : Logbook) → (trigger_comes l).tick ≡ l.tick
trigger_tick l =
    triggered (λ after. after.tick ≡ l.tick) l refl (λ e o. (start_still l).tick) (λ e o. refl)
    (λ T triggers e o f t. before_tick (length triggers) l)

trigger_made : (l : Logbook) → is_trigger_only l.registers ≡ false → stores_among (trigger_comes l).events ≡ stores_among l.events
trigger_made l other =
    triggered (λ after. stores_among after.events ≡ stores_among l.events) l refl (λ e o. (start_still l).made)
    (λ e o. cc)
    (λ T triggers e o f t. cc)

-- ---- the running cycle

-- the triggers of a cycle that a call begins: none, or the one that begins it
abbrev triggers_at_first : Logbook → Call → List ℕ
triggers_at_first l call = cond (may_store l.registers call) (l.tick ∷ []) []

-- what holds of a fresh cycle holds of the cycle after a start
pub start_cycle : (P : CycleSince → Type 0) (l : Logbook) → P (since l.tick []) → P (starts l).cycle
unfolding starts
start_cycle P l h = grind arith

-- what holds of no cycle and of the cycle that runs holds of the cycle after any ticks
module _ (P : CycleSince → Type 0) (stopped : P idle) where
  one_of : (ends : Bool) (cycle : CycleSince) → P cycle → P (cond ends idle cycle)
  one_of ends cycle h = grind arith

  pub ticks_cycle : (n : ℕ) (l : Logbook) → P l.cycle → P (ticks_pass n l).cycle
  unfolding ticks_pass
  ticks_cycle zero l h = h
  ticks_cycle (suc n) l h =
      ticks_cycle n (tick_passes l)
      (subst P (sym (tick_is l (due_after 64 l.registers (suc l.tick) l.cycle) refl).cycle)
      (one_of (ends_cycle l.registers (due_after 64 l.registers (suc l.tick) l.cycle)) l.cycle h))

  write_cycle : (register : Register) (word : ℕ) (l : Logbook) → P l.cycle → (is_start register word ≡ true → P (since l.tick [])) → P (writes register word l).cycle
  unfolding writes
  write_cycle register word l h fresh = go (is_start register word) refl _ refl (one_of (is_stop register word) l.cycle h)
    where
      go : (start : Bool) → is_start register word ≡ start → (written : Logbook) → written.tick ≡ l.tick → P written.cycle → P (cond start (starts written) written).cycle
      go true e written same kept = start_cycle P written (subst (λ (tick : ℕ). P (since tick [])) (sym same) (fresh e))
      go false e written same kept = kept

  -- after any call that happens: a cycle that begins, where it may, does so at this tick, and a trigger taken keeps its cycle
  call_cycle :
      (l : Logbook) (call : Call) → first_no (logbook_questions l call) ≡ 0 → P l.cycle
      → (is_idle l.cycle ≡ true → P (since l.tick (triggers_at_first l call)))
      → ((T : ℕ) (triggers : List ℕ) → l.cycle ≡ since T triggers → P (since T (l.tick ∷ triggers)))
      → P (happens l call).cycle
  unfolding happens
  call_cycle l (read width offset) met h fresh more = h
  call_cycle l (write width offset value) met h fresh more =
      write_cycle (class_of offset) (resulting_word l.registers l.gains width offset value) l h
      (λ start. fresh (was_idle (is_idle l.cycle) refl start))
    where
      was_idle :
          (free : Bool) → is_idle l.cycle ≡ free → is_start (class_of offset) (resulting_word l.registers l.gains width offset value) ≡ true
          → is_idle l.cycle ≡ true
      was_idle true e start = e
      was_idle false e start =
          cc
          (running_unstarted l.registers l.gains width offset value
          (subst (λ (t : Bool). first_no (call_questions l.registers l.gains t (write width offset value)) ≡ 0) e met))
  call_cycle l (advance ticks) met h fresh more = ticks_cycle ticks l h
  call_cycle l trigger met h fresh more =
      triggered (λ after. P after.cycle) l h
      (λ e o. start_cycle P l (subst (λ (only : Bool). P (since l.tick (cond only (l.tick ∷ []) []))) o (fresh (ap is_idle e))))
      (λ e o. subst (λ (only : Bool). P (since l.tick (cond only (l.tick ∷ []) []))) o (fresh (ap is_idle e)))
      (λ T triggers e o f t.
      subst (λ (tick : ℕ). P (since T (tick ∷ triggers))) (sym (before_tick (length triggers) l)) (more T triggers e))
  call_cycle l reset met h fresh more = stopped
  call_cycle l _ met h fresh more = h

-- a cycle that began at a tick with some triggers taken, and one that runs since T
abbrev StartedAt : (tick : ℕ) (first : List ℕ) → CycleSince → Type 0
StartedAt tick first idle = Unit
StartedAt tick first (since T triggers) = (T ≡ tick) × (triggers ≡ first)

abbrev RunsSince : (T : ℕ) → CycleSince → Type 0
RunsSince T idle = Unit
RunsSince T (since later triggers) = later ≡ T

started_there : (l : Logbook) (call : Call) → l.cycle ≡ idle → StartedAt l.tick (triggers_at_first l call) (logged l call).cycle
started_there l call e =
    either (λ after. StartedAt l.tick (triggers_at_first l call) after.cycle) l call
    (λ met.
    call_cycle (StartedAt l.tick (triggers_at_first l call)) tt l call met now (λ free. (refl, refl))
    (λ T triggers runs. cc))
    now
  where
    now : StartedAt l.tick (triggers_at_first l call) l.cycle
    now = subst (StartedAt l.tick (triggers_at_first l call)) (sym e) tt

kept_since : (l : Logbook) (call : Call) (T : ℕ) (triggers : List ℕ) → l.cycle ≡ since T triggers → RunsSince T (logged l call).cycle
kept_since l call T triggers e =
    either (λ after. RunsSince T after.cycle) l call
    (λ met.
    call_cycle (RunsSince T) tt l call met now
    (λ free. cc)
    (λ later more runs. subst (RunsSince T) (sym e ∙ runs) refl))
    now
  where
    now : RunsSince T l.cycle
    now = subst (RunsSince T) (sym e) refl

-- ---- external trigger only

-- a trigger with field 01, by the cycle that runs
with_field : (l : Logbook) (cycle : CycleSince) → l.cycle ≡ cycle → trigger_field l.registers.control ≡ 1 → logged l trigger ≡ triggered_in cycle l
unfolding logged call_questions first_no happens trigger_comes
with_field l cycle e field = grind arith

module _ (l : Logbook) (only : is_trigger_only l.registers ≡ true) where
  armed_is : (T : ℕ) (triggers : List ℕ) (on-time : Bool) → is_taken l.tick triggers ≡ on-time → triggered_in (since T triggers) l ≡ cond on-time (takes T triggers l) l
  armed_is T triggers on-time e = grind arith

  unarmed_is : (channels : Bool) → has_channels l.registers ≡ channels → triggered_in idle l ≡ cond channels (arms_by_trigger l) l
  unarmed_is channels e = grind arith

  ignored_is :
      ((T : ℕ) → l.cycle ≡ since T [] → trigger_field l.registers.control ≡ 1 → ⊥)
      → ((T last : ℕ) (earlier : List ℕ) → l.cycle ≡ since T (last ∷ earlier) → trigger_field l.registers.control ≡ 1 → 64 ≤ l.tick - last → ⊥)
      → (l.cycle ≡ idle → trigger_field l.registers.control ≡ 1 → has_channels l.registers ≡ true → ⊥)
      → logged l trigger ≡ l
  unfolding logged call_questions first_no happens trigger_comes
  ignored_is armed later unarmed = go (eqb (trigger_field l.registers.control) 1) refl l.cycle refl
    where
      late : (T last : ℕ) (earlier : List ℕ) → l.cycle ≡ since T (last ∷ earlier) → trigger_field l.registers.control ≡ 1 → (on-time : Bool) → leb 64 (l.tick - last) ≡ on-time → cond on-time (takes T (last ∷ earlier) l) l ≡ l
      late T last earlier e field true t = absurd (later T last earlier e field (leb-true 64 (l.tick - last) t))
      late T last earlier e field false t = refl

      unmet : l.cycle ≡ idle → trigger_field l.registers.control ≡ 1 → (channels : Bool) → has_channels l.registers ≡ channels → cond channels (arms_by_trigger l) l ≡ l
      unmet e field true met = absurd (unarmed e field met)
      unmet e field false met = refl

      go : (acts : Bool) → eqb (trigger_field l.registers.control) 1 ≡ acts → (cycle : CycleSince) → l.cycle ≡ cycle → cond acts (triggered_in cycle l) l ≡ l
      go false e cycle c = refl
      go true e idle c = unarmed_is (has_channels l.registers) refl ∙ unmet c (eqb-true _ _ e) (has_channels l.registers) refl
      go true e (since T []) c = absurd (armed T c (eqb-true _ _ e))
      go true e (since T (last ∷ earlier)) c =
          armed_is T (last ∷ earlier) (leb 64 (l.tick - last)) refl ∙ late T last earlier c (eqb-true _ _ e) (leb 64 (l.tick - last)) refl

-- ---- the code last taken

start_runs : (l : Logbook) → is_idle (starts l).cycle ≡ false
start_runs l = start_cycle (λ (c : CycleSince). is_idle c ≡ false) l refl

-- what keeps it: the cycle runs on, or the code is the same
abbrev Kept : (l after : Logbook) → Type 0
Kept l after = after.cycle ≡ idle → after.taken ≡ l.taken

write_code : (register : Register) (word : ℕ) (l : Logbook) → Kept l (writes register word l)
unfolding writes
write_code register word l = go (is_start register word) _ refl
  where
    go : (start : Bool) (written : Logbook) → written.taken ≡ l.taken → Kept l (cond start (starts written) written)
    go true written same e = cc (start_runs written)
    go false written same e = same

code_kept_lem : (l : Logbook) (call : Call) → is_timeless call ≡ true → Kept l (happens l call)
unfolding happens
code_kept_lem l (read width offset) h e = refl
code_kept_lem l (write width offset value) h e =
    write_code (class_of offset) (resulting_word l.registers l.gains width offset value) l e
code_kept_lem l (advance ticks) h e = cc
code_kept_lem l trigger h e =
    triggered (Kept l) l (λ f. refl) (λ i o f. cc (start_runs l))
    (λ i o f. cc)
    (λ T triggers i o g t f. cc)
    e
code_kept_lem l reset h e = cc
code_kept_lem l _ h e = refl

-- ---- the clauses

other_made : (l : Logbook) (call : Call) → may_store l.registers call ≡ false → stores_among (happens l call).events ≡ stores_among l.events
unfolding happens stores_among
other_made l (read width offset) other =
    read_either (λ (after : List Event). stores_among after ≡ stores_among l.events) (class_of offset) l.events refl (λ slot. refl)
other_made l (write width offset value) other =
    (write_still (class_of offset) (resulting_word l.registers l.gains width offset value) l).made
other_made l (advance ticks) other = cc
other_made l trigger other = trigger_made l other
other_made l _ other = refl

pub scheduled :
    (l : Logbook) → ((T : ℕ) (triggers : List ℕ) → l.cycle ≡ since T triggers → Startable l.registers) → Scheduled l
scheduled l startable =
    record {
      cycle_starts = cycle_starts l;
      bits_clear = bits_clear l;
      cycle_ends = cycle_ends l;
      no_start = no_start l;
      cycle_stays = cycle_stays l;
      events = events l;
      reads = reads l;
      inputs = inputs l;
      writes = writes_is l;
      resets = resets l;
      started = λ call T triggers e f. subst (StartedAt l.tick (triggers_at_first l call)) f (started_there l call e);
      kept = λ call T later triggers more e f. subst (RunsSince T) f (kept_since l call T triggers e);
      timed = λ T triggers running timed. in_cycle l T triggers running timed (startable T triggers running);
      untimed = λ untimed. tick_none l (λ delay. untimed_due delay l.registers (suc l.tick) l.cycle untimed);
      while_idle = λ stopped. tick_none l (λ delay. idle_due delay l.registers (suc l.tick) l.cycle stopped);
      code_kept = λ call timeless. either (Kept l) l call (λ met. code_kept_lem l call timeless) (λ e. refl);
      first = λ T e only field. with_field l (since T []) e field ∙ armed_is l only T [] true refl;
      taken = λ T last earlier e only field late.
          with_field l (since T (last ∷ earlier)) e field
          ∙ armed_is l only T (last ∷ earlier) true (le-leb 64 (l.tick - last) late);
      unarmed = λ e only field channels. with_field l idle e field ∙ unarmed_is l only true channels;
      ignored = ignored_is l;
      other_calls = λ call other.
          either (λ after. stores_among after.events ≡ stores_among l.events) l call (λ met. other_made l call other) refl;
    }

timeless_tick : (l : Logbook) (call : Call) → is_timeless call ≡ true → (happens l call).tick ≡ l.tick
unfolding happens
timeless_tick l (read width offset) h = refl
timeless_tick l (write width offset value) h =
    (write_still (class_of offset) (resulting_word l.registers l.gains width offset value) l).tick
timeless_tick l (advance ticks) h = cc
timeless_tick l trigger h = trigger_tick l
timeless_tick l reset h = cc
timeless_tick l _ h = refl

ticks_passed : (n : ℕ) (l : Logbook) → (ticks_pass n l).tick ≡ l.tick + n
unfolding ticks_pass
ticks_passed zero l = sym (add-zero l.tick)
ticks_passed (suc n) l = ticks_passed n (tick_passes l) ∙ rw (tick_is l _ refl).tick (suc-add l.tick n ∙ sym (add-suc l.tick n))

advance_passed : (l : Logbook) (n : ℕ) → all_met (logbook_questions l (advance n)) ≡ true → logged l (advance n) ≡ ticks_pass n l
unfolding logged happens
advance_passed l n met =
    accepted_is l (advance n) met

pub ticks_counted_lem : EveryTick
unfolding logged happens
ticks_counted_lem l =
    record {
      passed = advance_passed l;
      advanced = λ n met. ap (λ (after : Logbook). after.tick) (advance_passed l n met) ∙ ticks_passed n l;
      refused = refused_is l;
      others = λ call timeless. either (λ after. after.tick ≡ l.tick) l call (λ met. timeless_tick l call timeless) refl;
    }
