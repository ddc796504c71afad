-- A cycle starts: the board's fresh cycle is the logbook's, in every mode.
use mathlib.Core.Bool.{Bool, true, false, cond}
use mathlib.Core.List.{List, [], ◌∷◌}
use mathlib.Core.Logic.{◌⊎◌, inl, inr}
use mathlib.Core.Path.{◌≡◌, refl, sym, subst}
use Prim.Native.Nat.{ℕ, zero, suc, ◌%◌, ◌≤◌}
use native.Mathlib.Nat.{zero-mod, zero-div}
use native.Mathlib.Omega.{arith}
use lib.ListN.{replicate}
use Rattle.schedule.specs.declared.Plan.{Plan}
use Rattle.schedule.proofs.Schedule.{scheduled_first, begins_first}
use Rattle.schedule.proofs.Standing.{started_stands, begun_stands}
use Rattle.pmc330_model.specs.Map.{scan_field}
use Rattle.std.proofs.lemmas.Bool.{and_right}
use Rattle.pmc330_model.specs.Schedule.{pass_length, interval, is_differential, is_uniform, is_burst, is_timed, is_trigger_only}
use Rattle.pmc330_model.specs.Plan.{plan_of}
use Rattle.pmc330_model.specs.Board.{code_taken, begun, fresh_cycle, restarted, started}
use Rattle.pmc330_model.specs.Logbook.{Event, cycle_start, CycleSince, since, begins, starts}
use Rattle.pmc330_model.specs.Questions.{has_channels, has_interval}
use Rattle.pmc330_model.specs.declared.Registers.{Registers}
use Rattle.pmc330_model.specs.declared.Board.{Board}
use Rattle.pmc330_model.proofs.Agreement.{book_of, Memory, Limits, Startable, NextIs, Timed, Armed, Agrees, Related}
use Rattle.pmc330_model.proofs.Begins.{begins_is, begun_next, begun_held}
use Rattle.pmc330_model.proofs.Memory.{memory_start}
use Rattle.pmc330_model.proofs.Schedule.{apart_is}

-- what questions 9 and 10 say
module _ (r : Registers) (limits : Limits r) (channels : has_channels r ≡ true) (paced : has_interval r ≡ true) where
  pub startable_of : Startable r
  startable_of = grind arith

-- conversion 0 is next in a fresh cycle
fresh_next : (r : Registers) → NextIs r 0 false 0
fresh_next r = record { parity = rw (zero-div (pass_length r)) (sym (and_right (is_differential r) false refl)); before = λ j e. cc }

-- a fresh cycle in external trigger only is armed, with no trigger taken yet
pub fresh_armed : (r : Registers) (tick : ℕ) → is_timed r ≡ false → is_trigger_only r ≡ true → Armed r tick [] (fresh_cycle r)
fresh_armed r tick timed only =
    record {
      timed = timed;
      trigger_only = only;
      running = refl;
      index = sym (zero-mod (pass_length r));
      next = fresh_next r;
      flight = inr (record { are = refl; waiting = refl; lag = refl });
    }

module _ (b : Board) (tick : ℕ) (cycle : CycleSince) (events : List Event) (agrees : Agrees b tick cycle events) (startable : Startable b.registers) where
  -- the board with the bits cleared and the cycle fresh
  abbrev fresh : Board
  fresh = restarted b

  fresh_memory : Memory (cycle_start ∷ events) b.codes (replicate 32 0) b.pending
  fresh_memory = memory_start events b.codes b.unread b.pending agrees.memory

  fresh_agrees : Timed b.registers tick tick fresh.cycle ⊎ Armed b.registers tick [] fresh.cycle → Agrees fresh tick (since tick []) (cycle_start ∷ events)
  fresh_agrees mode =
      record {
        memory = fresh_memory;
        taken = agrees.taken;
        limits = agrees.limits;
        running = record { startable = startable; mode = mode };
      }

  Started : Type 0
  Started = Related (starts (book_of b tick cycle events)) (started b)

  -- no beginning in the call that starts the cycle
  no_burst : is_burst b.registers ≡ false → Agrees fresh tick (since tick []) (cycle_start ∷ events) → Started
  unfolding Started starts started
  no_burst e done = grind arith

  uniform : is_uniform b.registers ≡ true → is_burst b.registers ≡ false → Started
  uniform e other =
      let long : 64 ≤ interval b.registers = startable.slow e in
      let first : (plan_of b.registers).first ≡ interval b.registers = rw e in
      let timed : is_timed b.registers ≡ true = rw e in
      no_burst other
      (fresh_agrees
      (inl
      (record {
        k = 0;
        timed = timed;
        stands = started_stands (plan_of b.registers) (apart_is b.registers timed startable) tick (omega arith);
        next = fresh_next b.registers;
      })))

  armed : is_timed b.registers ≡ false → is_trigger_only b.registers ≡ true → is_burst b.registers ≡ false → Started
  armed timed only other = no_burst other (fresh_agrees (inr (fresh_armed b.registers tick timed only)))

  -- a burst's first beginning is part of the call that starts it
  first_place : fresh.cycle.timer.index ≡ 0 % pass_length b.registers
  first_place = sym (zero-mod (pass_length b.registers))

  burst_agrees : is_timed b.registers ≡ true → is_uniform b.registers ≡ false → Agrees (begun fresh) tick (since tick []) (cycle_start ∷ events)
  unfolding code_taken
  burst_agrees timed other =
      let p : Plan = plan_of b.registers in
      let first : p.first ≡ 0 = rw other in
      record {
        memory = fresh_memory;
        taken = begun_held fresh;
        limits = agrees.limits;
        running =
            record {
              startable = startable;
              mode =
                  inl
                  (record {
                    k = 1;
                    timed = timed;
                    stands =
                        begun_stands p (apart_is b.registers timed startable) tick tick 0 fresh.cycle.timer refl first_place (scheduled_first p)
                        (omega (arith, begins_first p));
                    next = begun_next fresh startable 0 first_place (fresh_next b.registers);
                  });
            };
      }

  burst : is_burst b.registers ≡ true → is_timed b.registers ≡ true → is_uniform b.registers ≡ false → Started
  unfolding Started starts started code_taken
  burst e timed other =
      subst
      (λ (now : Bool).
      Related (cond now (begins 0 (book_of fresh tick (since tick []) (cycle_start ∷ events))) (book_of fresh tick (since tick []) (cycle_start ∷ events)))
      (cond now (begun fresh) fresh))
      (sym e)
      (record {
        tick = tick;
        cycle = since tick [];
        events = cycle_start ∷ events;
        same = begins_is fresh startable 0 first_place tick (since tick []) (cycle_start ∷ events);
        agrees = burst_agrees timed other;
      })

  -- every mode that can start
  by_scan : (n : ℕ) → scan_field b.registers.control ≡ n → (n ≡ 0 → ⊥) → n ≤ 5 → Started
  by_scan zero e some most = absurd (some refl)
  by_scan (suc zero) e some most = uniform (rw e) (rw e)
  by_scan (suc (suc zero)) e some most = uniform (rw e) (rw e)
  by_scan (suc (suc (suc zero))) e some most = burst (rw e) (rw e) (rw e)
  by_scan (suc (suc (suc (suc zero)))) e some most = burst (rw e) (rw e) (rw e)
  by_scan (suc (suc (suc (suc (suc zero))))) e some most = armed (rw e) (rw e) (rw e)
  by_scan (suc (suc (suc (suc (suc (suc n)))))) e some most = absurd (omega arith)

  pub started_agrees : (scan_field b.registers.control ≡ 0 → ⊥) → Related (starts (book_of b tick cycle events)) (started b)
  unfolding Started
  started_agrees some = by_scan (scan_field b.registers.control) refl some agrees.limits.scan
