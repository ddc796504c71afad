-- A trigger: taken, the start of a cycle, or ignored, on the board as in the logbook.
use mathlib.Core.Bool.{Bool, true, false, cond, ◌&&◌}
use mathlib.Core.List.{List, [], ◌∷◌}
use mathlib.Core.Logic.{◌⊎◌, inl, inr, ⊎_elim}
use mathlib.Core.Path.{◌≡◌, refl, sym, ap, subst}
use Prim.Native.Nat.{ℕ}
use native.Mathlib.Omega.{arith}
use lib.Dec.{eqb}
use lib.ListN.{length}
use borrow.Author.Tests.{eqb-true}
use Rattle.std.proofs.lemmas.Bool.{and_parts, both_ways}
use Rattle.schedule.proofs.Standing.{begun_ends, begun_index}
use Rattle.pmc330_model.specs.Map.{trigger_field, scan_field}
use Rattle.pmc330_model.specs.Schedule.{is_timed, is_trigger_only}
use Rattle.pmc330_model.specs.Plan.{plan_of}
use Rattle.pmc330_model.specs.Board.{code_taken, with_cycle, stored, begun, fresh_cycle, trigger_taken, armed_by_trigger, triggered_idle, triggered}
use Rattle.pmc330_model.specs.Logbook.{Event, CycleSince, idle, since, store, store_at, stores_before, is_taken, takes_code, takes, arms_by_trigger, triggered_in, trigger_comes}
use Rattle.pmc330_model.specs.Questions.{has_channels, has_interval}
use Rattle.pmc330_model.specs.declared.Registers.{Registers}
use Rattle.pmc330_model.specs.declared.Cycle.{Cycle}
use Rattle.pmc330_model.specs.declared.Board.{Board}
use Rattle.pmc330_model.proofs.Agreement.{book_of, Memory, Limits, Startable, Timed, TriggerTaken, Untriggered, Armed, Agrees, Related}
use Rattle.pmc330_model.proofs.Begins.{begins_is, begun_next, begun_held}
use Rattle.pmc330_model.proofs.Starts.{startable_of, fresh_armed, started_agrees}
use Rattle.pmc330_model.proofs.Related.{unchanged, both}
use Rattle.pmc330_model.proofs.Stores.{slot_memory, store_of, stored_memory}

-- a mode in time is not external trigger only
pub timed_not_only : (r : Registers) → is_timed r ≡ true → is_trigger_only r ≡ false
timed_not_only r timed = grind arith

-- external trigger only is scan 101: no timed mode, and question 10 asks nothing of it
only_untimed : (r : Registers) → is_trigger_only r ≡ true → is_timed r ≡ false
only_untimed r only = rw (eqb-true (scan_field r.control) 5 only)

only_interval : (r : Registers) → is_trigger_only r ≡ true → has_interval r ≡ true
only_interval r only = rw (eqb-true (scan_field r.control) 5 only)

timed_scans : (r : Registers) → is_timed r ≡ true → scan_field r.control ≡ 0 → ⊥
timed_scans r timed none = cc

-- the countdown is over just when the trigger would be taken
taken_same : (r : Registers) (tick : ℕ) (triggers : List ℕ) (c : Cycle) → TriggerTaken r tick triggers c ⊎ Untriggered triggers c → eqb c.timer.lag 0 ≡ is_taken tick triggers
taken_same r tick triggers c h = grind arith

-- a trigger takes its code, on a board that has stored what it had to
module _ (s : Board) (tick T : ℕ) (triggers : List ℕ) (limits : Limits s.registers) (startable : Startable s.registers)
    (armed : Armed s.registers tick triggers s.cycle) where
  armed_after :
      (events : List Event) → Memory events s.codes s.unread s.pending → Agrees (begun s) tick (since T (tick ∷ triggers)) events
  unfolding code_taken
  armed_after events memory =
      record {
        memory = memory;
        taken = begun_held s;
        limits = limits;
        running =
            record {
              startable = startable;
              mode =
                  inr
                  (record {
                    timed = armed.timed;
                    trigger_only = armed.trigger_only;
                    running = armed.running;
                    index = begun_index (plan_of s.registers) (length triggers) s.cycle.timer armed.index;
                    next = begun_next s startable (length triggers) armed.index armed.next;
                    flight =
                        inl
                        (record {
                          last = tick;
                          earlier = triggers;
                          are = refl;
                          waiting = refl;
                          lag = omega arith;
                          taken = omega arith;
                          ends = begun_ends (plan_of s.registers) (length triggers) s.cycle.timer armed.index;
                        });
                  });
            };
      }

  taking_agrees :
      (cycle : CycleSince) (events : List Event) → Memory events s.codes s.unread s.pending
      → Related (takes_code T triggers (book_of s tick cycle events)) (begun s)
  taking_agrees cycle events memory =
      record {
        tick = tick;
        cycle = since T (tick ∷ triggers);
        events = events;
        same = begins_is s startable (length triggers) armed.index tick (since T (tick ∷ triggers)) events;
        agrees = armed_after events memory;
      }

module _ (b : Board) (tick T : ℕ) (triggers : List ℕ) (events : List Event) (agrees : Agrees b tick (since T triggers) events)
    (startable : Startable b.registers) (armed : Armed b.registers tick triggers b.cycle) where
  Taken : Board → List ℕ → Type 0
  Taken after given =
      Related (takes_code T triggers (stores_before (length given) (book_of b tick (since T triggers) events))) after

  -- the first trigger of a cycle that Start Convert armed stores nothing
  first_taken : Untriggered triggers b.cycle → Taken (trigger_taken b) triggers
  unfolding Taken
  first_taken u =
      let board : trigger_taken b ≡ begun b = ap (λ (w : Bool). begun (cond w (stored b.cycle.slot b.cycle.timer.ends b) b)) u.waiting in
      rw board
      (subst (Taken (begun b)) (sym u.are)
      (taking_agrees b tick T triggers agrees.limits startable armed (since T triggers) events agrees.memory))

  -- a later one stores the conversion before it
  later_taken : TriggerTaken b.registers tick triggers b.cycle → Taken (trigger_taken b) triggers
  unfolding Taken stored
  later_taken w =
      let s : Board = stored b.cycle.slot b.cycle.timer.ends b in
      let board : trigger_taken b ≡ begun s = ap (λ (t : Bool). begun (cond t s b)) w.waiting in
      let k : ℕ = length w.earlier in
      rw board
      (subst (Taken (begun s)) (sym w.are)
      (taking_agrees s tick T triggers agrees.limits startable armed (since T triggers) (store_of b tick k ∷ events)
      (stored_memory b startable tick k b.cycle.slot b.cycle.timer.ends (armed.next.before k (ap length w.are)) w.ends events agrees.memory agrees.taken)))

  pub taken_agrees : Related (takes T triggers (book_of b tick (since T triggers) events)) (trigger_taken b)
  unfolding Taken
  taken_agrees = ⊎_elim later_taken first_taken armed.flight

-- a trigger that arms stores the code last taken, in a cycle without a trigger before it
arming_agrees :
    (b : Board) (tick : ℕ) (events : List Event) → Agrees b tick idle events → is_trigger_only b.registers ≡ true
    → has_channels b.registers ≡ true → Related (arms_by_trigger (book_of b tick idle events)) (armed_by_trigger b)
unfolding stored
arming_agrees b tick events agrees only channels =
    let r : Registers = b.registers in
    taking_agrees (with_cycle (stored r.start false b) (fresh_cycle r)) tick tick [] agrees.limits
    (startable_of r agrees.limits channels (only_interval r only))
    (fresh_armed r tick (only_untimed r only) only)
    idle
    (store (store_at r tick b.taken r.start false) ∷ events)
    (slot_memory b tick r.start false (omega (arith, agrees.limits.start)) events agrees.memory agrees.taken)

-- what a trigger does to a running board
abbrev running_after : Board → Board
running_after b = cond (is_trigger_only b.registers && eqb b.cycle.timer.lag 0) (trigger_taken b) b

triggered_in_lem : (b : Board) (tick : ℕ) (cycle : CycleSince) (events : List Event) → Agrees b tick cycle events
    → Related (triggered_in cycle (book_of b tick cycle events))
    (cond b.cycle.timer.running (running_after b) (triggered_idle b))
triggered_in_lem b tick idle events agrees =
    subst
    (λ (running : Bool). Related (triggered_in idle (book_of b tick idle events)) (cond running (running_after b) (triggered_idle b)))
    (sym (ap (λ (c : Cycle). c.timer.running) agrees.running))
    (both (is_trigger_only b.registers) _ refl
    (λ only.
    both (has_channels b.registers) _ refl (arming_agrees b tick events agrees only) (λ other. unchanged b tick idle events agrees))
    (λ modes.
    both (is_timed b.registers && has_channels b.registers && has_interval b.registers) _ refl
    (λ able.
    let two = (and_parts _ _ able).0 in
    let timed = (and_parts _ _ two).0 in
    started_agrees b tick idle events agrees
    (startable_of b.registers agrees.limits
    (and_parts _ _ two).1
    (and_parts _ _ able).1)
    (timed_scans b.registers timed))
    (λ other. unchanged b tick idle events agrees)))
triggered_in_lem b tick (since T triggers) events agrees = go agrees.running.mode
  where
    go : Timed b.registers T tick b.cycle ⊎ Armed b.registers tick triggers b.cycle
        → Related (triggered_in (since T triggers) (book_of b tick (since T triggers) events))
        (cond b.cycle.timer.running (running_after b) (triggered_idle b))
    go (inl timed) =
        subst
        (λ (running : Bool). Related (triggered_in (since T triggers) (book_of b tick (since T triggers) events)) (cond running (running_after b) (triggered_idle b)))
        (sym timed.stands.running)
        (both (is_trigger_only b.registers && eqb b.cycle.timer.lag 0) (is_trigger_only b.registers && is_taken tick triggers)
        (rw (timed_not_only b.registers timed.timed))
        (λ only. absurd (both_ways _ (timed_not_only b.registers timed.timed) (and_parts _ _ only).0))
        (λ other. unchanged b tick (since T triggers) events agrees))
    go (inr armed) =
        subst
        (λ (running : Bool). Related (triggered_in (since T triggers) (book_of b tick (since T triggers) events)) (cond running (running_after b) (triggered_idle b)))
        (sym armed.running)
        (both (is_trigger_only b.registers && eqb b.cycle.timer.lag 0) (is_trigger_only b.registers && is_taken tick triggers)
        (ap (λ (t : Bool). is_trigger_only b.registers && t) (taken_same b.registers tick triggers b.cycle armed.flight))
        (λ now. taken_agrees b tick T triggers events agrees agrees.running.startable armed)
        (λ other. unchanged b tick (since T triggers) events agrees))

pub trigger_agrees : (b : Board) (tick : ℕ) (cycle : CycleSince) (events : List Event) → Agrees b tick cycle events → Related (trigger_comes (book_of b tick cycle events)) (triggered b)
unfolding trigger_comes triggered
trigger_agrees b tick cycle events agrees =
    both (eqb (trigger_field b.registers.control) 1) _ refl
    (λ input. triggered_in_lem b tick cycle events agrees)
    (λ other. unchanged b tick cycle events agrees)
