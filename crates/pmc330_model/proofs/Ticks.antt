-- A tick of a board and of its logbook, in every mode.
use mathlib.Core.Bool.{Bool, true, false, cond, ◌&&◌}
use mathlib.Core.List.{List, ◌∷◌}
use mathlib.Core.Logic.{◌⊎◌, inl, inr}
use mathlib.Core.Path.{◌≡◌, refl, sym, ap, ap₂, subst, subst₂, ◌∙◌}
use Prim.Native.Nat.{ℕ, zero, suc, ◌+◌, ◌<◌}
use native.Mathlib.Nat.{add-zero, zero-add}
use native.Mathlib.Omega.{arith}
use lib.Dec.{eqb}
use borrow.Author.Tests.{eq-eqb, ne_eqb}
use Rattle.std.proofs.lemmas.Bool.{both_ways}
use Rattle.schedule.specs.Timer.{idle_timer, elapsed_by, begun_timer}
use Rattle.schedule.specs.Scan.{Scan, scan, elapsed, store_if, begin_if, is_store_due, ticked}
use Rattle.schedule.specs.Scan as schedule
use Rattle.schedule.specs.Schedule.{IsApart}
use Rattle.schedule.specs.Standing.{AllStored, Standing}
use Rattle.schedule.specs.declared.Plan.{Plan}
use Rattle.schedule.specs.declared.Timer.{Timer}
use Rattle.schedule.proofs.Jumps.{ticked_is, idle_tick}
use Rattle.schedule.proofs.Maps.{advanced_keeps}
use Rattle.schedule.proofs.Standing.{Stores, StoreHalf, stores, waits, Waits, store_half, Between, Begins, Stays}
use Rattle.schedule.proofs.Standing as standing
use Rattle.pmc330_model.specs.Schedule.{is_single, is_timed, ends_pass}
use Rattle.pmc330_model.specs.Plan.{plan_of}
use Rattle.pmc330_model.specs.Board.{idle_cycle, with_cycle, with_timer, stored, code_taken, board_effects, scan_of, scanned, advanced, stores_in}
use Rattle.pmc330_model.specs.Logbook.{Event, CycleSince, idle, since, due_after, if_due, stores_in_time, stores_due, begins, begins_due, tick_passes, ticks_pass, stores_made}
use Rattle.pmc330_model.specs.declared.Registers.{Registers}
use Rattle.pmc330_model.specs.declared.Cycle.{Cycle}
use Rattle.pmc330_model.specs.declared.Board.{Board}
use Rattle.pmc330_model.proofs.Agreement.{book_of, Memory, Limits, Startable, NextIs, Timed, TriggerTaken, Untriggered, Armed, Agrees, Moved}
use Rattle.pmc330_model.proofs.Begins.{begins_is, begun_next, begun_held}
use Rattle.pmc330_model.proofs.Due.{untimed_due}
use Rattle.pmc330_model.proofs.Schedule.{due_is, apart_is}
use Rattle.pmc330_model.proofs.Stores.{store_of, stored_memory}

-- ---- the beginning of a tick, on a board that has made the tick's store: `t` is its timer before the tick

module _ (x : Scan Board) (T tick k : ℕ) (triggers : List ℕ) (events : List Event) (t : Timer)
    (startable : Startable x.board.registers) (timed : is_timed x.board.registers ≡ true) (limits : Limits x.board.registers)
    (memory : Memory events x.board.codes x.board.unread x.board.pending) (taken : x.board.taken < 65536)
    (next : NextIs x.board.registers k x.board.cycle.odd x.board.cycle.slot) (stands : Standing (plan_of x.board.registers) T tick k t)
    (between : Between (plan_of x.board.registers) (apart_is x.board.registers timed startable) T tick k t stands x.timer) where
  abbrev r : Registers
  r = x.board.registers

  abbrev Begun : Scan Board → Type 0
  Begun after =
      (begins_due (book_of (scanned x) (suc tick) (since T triggers) events) ≡ book_of (scanned after) (suc tick) (since T triggers) events)
      × Agrees (scanned after) (suc tick) (since T triggers) events

  begins_now : Begins (plan_of r) (apart_is r timed startable) T tick k t stands x.timer between → Begun (scan (begun_timer (plan_of r) x.timer) (code_taken x.timer.index x.board))
  unfolding code_taken
  begins_now h = let index = between.index ∙ stands.index in (
    ap (λ due. if_due due begins (book_of (scanned x) (suc tick) (since T triggers) events)) (due_is r timed 0 T (suc tick) triggers ∙ h.found)
        ∙ begins_is (scanned x) startable k index (suc tick) (since T triggers) events,
    record {
      memory = memory;
      taken = begun_held (scanned x);
      limits = limits;
      running =
          record {
            startable = startable;
            mode = inl (record { k = suc k; timed = timed; stands = h.after; next = begun_next (scanned x) startable k index next });
          };
    },
  )

  nothing_begins : Stays (plan_of r) (apart_is r timed startable) T tick k t stands x.timer between → Begun x
  nothing_begins h = (
    ap (λ due. if_due due begins (book_of (scanned x) (suc tick) (since T triggers) events)) (due_is r timed 0 T (suc tick) triggers ∙ h.none),
    record {
      memory = memory;
      taken = taken;
      limits = limits;
      running = record { startable = startable; mode = inl (record { k = k; timed = timed; stands = h.after; next = next }) };
    },
  )

  begin_half : Begun (begin_if (plan_of r) board_effects (eqb t.lead 1) x)
  begin_half = go (standing.begin_half (plan_of r) (apart_is r timed startable) T tick k t stands x.timer between)
    where
      go : Begins (plan_of r) (apart_is r timed startable) T tick k t stands x.timer between ⊎ Stays (plan_of r) (apart_is r timed startable) T tick k t stands x.timer between
          → Begun (begin_if (plan_of r) board_effects (eqb t.lead 1) x)
      go (inl h) =
          subst Begun
          (sym
          (ap₂ (λ (due runs : Bool). cond (due && runs) (scan (begun_timer (plan_of r) x.timer) (code_taken x.timer.index x.board)) x) (eq-eqb t.lead 1 h.one)
          between.running))
          (begins_now h)
      go (inr h) = subst Begun (sym (ap (λ (due : Bool). begin_if (plan_of r) board_effects due x) (ne_eqb t.lead 1 h.other))) (nothing_begins h)

-- ---- a tick of a cycle in time

module _ (s : Scan Board) (T tick : ℕ) (triggers : List ℕ) (events : List Event) (startable : Startable s.board.registers)
    (memory : Memory events s.board.codes s.board.unread s.board.pending) (limits : Limits s.board.registers) (taken : s.board.taken < 65536)
    (timed : Timed s.board.registers T tick (scanned s).cycle) where
  abbrev p : Plan
  p = plan_of s.board.registers

  apart : IsApart p
  apart = apart_is s.board.registers timed.timed startable

  abbrev k : ℕ
  k = timed.k

  -- the claim of a tick, of the board after it and its number of stores
  abbrev Done : Scan Board → (made : ℕ) → Type 0
  Done after made = Moved (tick_passes (book_of (scanned s) tick (since T triggers) events)) (scanned after) made events

  by_store :
      (due : Bool) → eqb s.timer.lag 1 ≡ due → Done (begin_if p board_effects (eqb s.timer.lead 1) (store_if p board_effects due (elapsed 1 s))) (cond due 1 0)
      → Done (ticked p board_effects s) (cond (is_store_due s) 1 0)
  by_store due e done =
      let is = ticked_is p board_effects s timed.stands.running ∙ ap (λ (d : Bool). begin_if p board_effects (eqb s.timer.lead 1) (store_if p board_effects d (elapsed 1 s))) e in
      let count : cond (is_store_due s) 1 0 ≡ cond due 1 0 = ap₂ (λ (runs d : Bool). cond (runs && d) 1 0) timed.stands.running e in
      subst (λ (made : ℕ). Done (ticked p board_effects s) made) (sym count) (subst (λ (after : Scan Board). Done after (cond due 1 0)) (sym is) done)

  no_store : Waits p apart T tick k s.timer timed.stands → Done (ticked p board_effects s) (cond (is_store_due s) 1 0)
  unfolding tick_passes
  no_store h =
      let half = begin_half (elapsed 1 s) T tick k triggers events s.timer startable timed.timed limits memory taken timed.next timed.stands
      (record { running = timed.stands.running; index = refl; lead = refl; flight = h.flight }) in
      by_store false (ne_eqb s.timer.lag 1 h.other)
      (record {
        tick = suc tick;
        cycle = since T triggers;
        events = events;
        same =
            ap (λ due. begins_due (if_due due stores_in_time (book_of (scanned (elapsed 1 s)) (suc tick) (since T triggers) events)))
            (due_is s.board.registers timed.timed 64 T (suc tick) triggers ∙ h.none)
            ∙ half.0;
        agrees = half.1;
        count = sym (zero-add (stores_made events));
      })

  module _ (j : ℕ) (h : Stores p apart T tick k s.timer timed.stands j) (all : AllStored p T (suc tick) k (elapsed_by 1 s.timer)) where
    abbrev made : List Event
    made = store_of s.board (suc tick) j ∷ events

    -- the scan after its store, which may be the last one of a single pass
    abbrev left : (over : Bool) → Scan Board
    left over =
        scan (cond over idle_timer (elapsed_by 1 s.timer))
        (with_cycle (stored s.board.cycle.slot s.timer.ends s.board)
        (cond over (record idle_cycle { timer = s.board.cycle.timer }) (record s.board.cycle { waiting = false })))

    memory_after : (over : Bool) → Memory made (left over).board.codes (left over).board.unread (left over).board.pending
    unfolding stored
    memory_after over =
        unfold stored in
        stored_memory s.board startable (suc tick) j s.board.cycle.slot s.timer.ends (timed.next.before j h.last) h.ends events memory taken

    stored_book :
        (over : Bool) → (is_single s.board.registers && ends_pass s.board.registers j) ≡ over
        → stores_due (book_of (scanned (elapsed 1 s)) (suc tick) (since T triggers) events)
        ≡ book_of (scanned (left over)) (suc tick) (cond over idle (since T triggers)) made
    unfolding stored
    stored_book over e =
        ap (λ due. if_due due stores_in_time (book_of (scanned (elapsed 1 s)) (suc tick) (since T triggers) events))
        (due_is s.board.registers timed.timed 64 T (suc tick) triggers ∙ h.found)
        ∙ ap (λ (t : Bool). book_of (scanned (left over)) (suc tick) (cond t idle (since T triggers)) made) e

    counted : stores_made made ≡ 1 + stores_made events
    unfolding stores_made
    counted = omega arith

    after_store : (over : Bool) → (is_single s.board.registers && ends_pass s.board.registers j) ≡ over → Done (begin_if p board_effects (eqb s.timer.lead 1) (left over)) 1
    unfolding stored tick_passes due_after
    after_store true e =
        subst (λ (after : Scan Board). Done after 1) (sym (still (eqb s.timer.lead 1)))
        (record {
          tick = suc tick;
          cycle = idle;
          events = made;
          same = ap begins_due (stored_book true e);
          agrees = record { memory = memory_after true; taken = taken; limits = limits; running = refl };
          count = counted;
        })
      where
        still : (due : Bool) → begin_if p board_effects due (left true) ≡ left true
        still true = refl
        still false = refl
    after_store false e =
        let half = begin_half (left false) T tick k triggers made s.timer startable timed.timed limits (memory_after false) taken timed.next timed.stands
        (record { running = timed.stands.running; index = refl; lead = refl; flight = inr all }) in
        record {
          tick = suc tick;
          cycle = since T triggers;
          events = made;
          same = ap begins_due (stored_book false e) ∙ half.0;
          agrees = half.1;
          count = counted;
        }

    is_stored : Done (ticked p board_effects s) (cond (is_store_due s) 1 0)
    is_stored =
        by_store true (eq-eqb s.timer.lag 1 h.one)
        (after_store (p.single && s.timer.ends) (ap (λ (ends : Bool). is_single s.board.registers && ends) (sym h.ends)))

  tick_in_time : Done (ticked p board_effects s) (cond (is_store_due s) 1 0)
  tick_in_time = go (store_half p apart T tick k s.timer timed.stands)
    where
      go : StoreHalf p apart T tick k s.timer timed.stands → Done (ticked p board_effects s) (cond (is_store_due s) 1 0)
      go (stores j h all) = is_stored j h all
      go (waits h) = no_store h

-- ---- the ticks of a mode in time

-- time keeps the registers
registers_kept : (p : Plan) (s : Scan Board) → (ticked p board_effects s).board.registers ≡ s.board.registers
unfolding schedule.advanced code_taken stored
registers_kept p s = advanced_keeps p board_effects (λ b. b.registers) (λ index b. refl) (λ ends b. refl) 1 s

scan_tick :
    (s : Scan Board) (tick : ℕ) (cycle : CycleSince) (events : List Event) → is_timed s.board.registers ≡ true → Agrees (scanned s) tick cycle events
    → Moved (tick_passes (book_of (scanned s) tick cycle events)) (scanned (ticked (plan_of s.board.registers) board_effects s)) (cond (is_store_due s) 1 0) events
unfolding tick_passes due_after
scan_tick s tick idle events timed agrees =
    let stopped : s.timer.running ≡ false = ap (λ (c : Cycle). c.timer.running) agrees.running in
    subst₂ (λ (after : Scan Board) (runs : Bool). Moved (tick_passes (book_of (scanned s) tick idle events)) (scanned after) (cond (runs && eqb s.timer.lag 1) 1 0) events)
    (sym (idle_tick (plan_of s.board.registers) board_effects s stopped))
    (sym stopped)
    (record {
      tick = suc tick;
      cycle = idle;
      events = events;
      same = refl;
      agrees = record { memory = agrees.memory; taken = agrees.taken; limits = agrees.limits; running = agrees.running };
      count = sym (zero-add (stores_made events));
    })
scan_tick s tick (since T triggers) events timed agrees = go agrees.running.mode
  where
    go : Timed s.board.registers T tick (scanned s).cycle ⊎ Armed s.board.registers tick triggers (scanned s).cycle
        → Moved (tick_passes (book_of (scanned s) tick (since T triggers) events)) (scanned (ticked (plan_of s.board.registers) board_effects s)) (cond (is_store_due s) 1 0) events
    go (inl h) = tick_in_time s T tick triggers events agrees.running.startable agrees.memory agrees.limits agrees.taken h
    go (inr h) = absurd (both_ways _ h.timed timed)

scan_ticks :
    (n : ℕ) (r : Registers) (s : Scan Board) → s.board.registers ≡ r → is_timed r ≡ true → (tick : ℕ) (cycle : CycleSince) (events : List Event)
    → Agrees (scanned s) tick cycle events
    → Moved (ticks_pass n (book_of (scanned s) tick cycle events)) (scanned (schedule.advanced (plan_of r) board_effects n s))
    (schedule.stores_in (plan_of r) board_effects n s)
    events
unfolding ticks_pass schedule.advanced schedule.stores_in
scan_ticks zero r s same timed tick cycle events agrees =
    record { tick = tick; cycle = cycle; events = events; same = refl; agrees = agrees; count = sym (zero-add (stores_made events)) }
scan_ticks (suc n) r s same timed tick cycle events agrees =
    let first =
    subst
    (λ (q : Registers).
    Moved (tick_passes (book_of (scanned s) tick cycle events)) (scanned (ticked (plan_of q) board_effects s)) (cond (is_store_due s) 1 0) events)
    same
    (scan_tick s tick cycle events (ap is_timed same ∙ timed) agrees) in
    let rest =
    scan_ticks n r (ticked (plan_of r) board_effects s) (registers_kept (plan_of r) s ∙ same) timed first.tick first.cycle first.events
    first.agrees in
    record {
      tick = rest.tick;
      cycle = rest.cycle;
      events = rest.events;
      same = ap (ticks_pass n) first.same ∙ rest.same;
      agrees = rest.agrees;
      count = omega (arith, first.count, rest.count);
    }

-- ---- the ticks of the other modes: nothing is due in them

untimed_ticks :
    (n : ℕ) (b : Board) (tick : ℕ) (cycle : CycleSince) (events : List Event) → is_timed b.registers ≡ false
    → ticks_pass n (book_of b tick cycle events) ≡ book_of b (tick + n) cycle events
unfolding ticks_pass tick_passes
untimed_ticks zero b tick cycle events untimed = ap (λ (t : ℕ). book_of b t cycle events) (sym (add-zero tick))
untimed_ticks (suc n) b tick cycle events untimed =
    let later : suc tick + n ≡ tick + suc n = omega arith in
    ap (λ due. ticks_pass n (begins_due (if_due due stores_in_time (book_of b (suc tick) cycle events))))
    (untimed_due 64 b.registers (suc tick) cycle untimed)
    ∙ ap (λ due. ticks_pass n (if_due due begins (book_of b (suc tick) cycle events))) (untimed_due 0 b.registers (suc tick) cycle untimed)
    ∙ untimed_ticks n b (suc tick) cycle events untimed
    ∙ ap (λ (t : ℕ). book_of b t cycle events) later

untimed_agrees : (n : ℕ) (b : Board) (tick : ℕ) (cycle : CycleSince) (events : List Event) → is_timed b.registers ≡ false → Agrees b tick cycle events
    → Agrees (cond b.cycle.timer.running (with_timer b (elapsed_by n b.cycle.timer)) b) (tick + n) cycle events
untimed_agrees n b tick idle events untimed agrees =
    subst (λ (runs : Bool). Agrees (cond runs (with_timer b (elapsed_by n b.cycle.timer)) b) (tick + n) idle events)
    (sym (ap (λ (c : Cycle). c.timer.running) agrees.running))
    (record { memory = agrees.memory; taken = agrees.taken; limits = agrees.limits; running = agrees.running })
untimed_agrees n b tick (since T triggers) events untimed agrees = go agrees.running.mode
  where
    waits_on : TriggerTaken b.registers tick triggers b.cycle ⊎ Untriggered triggers b.cycle
        → TriggerTaken b.registers (tick + n) triggers (with_timer b (elapsed_by n b.cycle.timer)).cycle ⊎ Untriggered triggers (with_timer b (elapsed_by n b.cycle.timer)).cycle
    waits_on h = grind arith

    go : Timed b.registers T tick b.cycle ⊎ Armed b.registers tick triggers b.cycle
        → Agrees (cond b.cycle.timer.running (with_timer b (elapsed_by n b.cycle.timer)) b) (tick + n) (since T triggers) events
    go (inl h) = absurd (both_ways _ untimed h.timed)
    go (inr h) =
        subst (λ (runs : Bool). Agrees (cond runs (with_timer b (elapsed_by n b.cycle.timer)) b) (tick + n) (since T triggers) events) (sym h.running)
        (record {
          memory = agrees.memory;
          taken = agrees.taken;
          limits = agrees.limits;
          running =
              record {
                startable = agrees.running.startable;
                mode =
                    inr
                    (record {
                      timed = h.timed;
                      trigger_only = h.trigger_only;
                      running = h.running;
                      index = h.index;
                      next = h.next;
                      flight = waits_on h.flight;
                    });
              };
        })

-- n ticks, and the stores made in them
pub ticks_agree : (n : ℕ) (b : Board) (tick : ℕ) (cycle : CycleSince) (events : List Event) → Agrees b tick cycle events → Moved (ticks_pass n (book_of b tick cycle events)) (advanced n b) (stores_in n b) events
unfolding advanced stores_in
ticks_agree n b tick cycle events agrees = go (is_timed b.registers) refl
  where
    go :
        (timed : Bool) → is_timed b.registers ≡ timed
        → Moved (ticks_pass n (book_of b tick cycle events))
        (cond timed (scanned (schedule.advanced (plan_of b.registers) board_effects n (scan_of b))) (cond b.cycle.timer.running (with_timer b (elapsed_by n b.cycle.timer)) b))
        (cond timed (schedule.stores_in (plan_of b.registers) board_effects n (scan_of b)) 0)
        events
    go true timed = scan_ticks n b.registers (scan_of b) refl timed tick cycle events agrees
    go false untimed =
        record {
          tick = tick + n;
          cycle = cycle;
          events = events;
          same = untimed_ticks n b tick cycle events untimed ∙ book (b.cycle.timer.running);
          agrees = untimed_agrees n b tick cycle events untimed agrees;
          count = sym (zero-add (stores_made events));
        }
      where
        book : (runs : Bool) → book_of b (tick + n) cycle events ≡ book_of (cond runs (with_timer b (elapsed_by n b.cycle.timer)) b) (tick + n) cycle events
        book true = refl
        book false = refl
