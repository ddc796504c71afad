-- What ties a board to the logbook of the calls that led to it. The logbook holds what the board does, and beside it
-- a tick, the running cycle and the events: the proof of sentence 3 shows that each call keeps `Agrees`.
use mathlib.Core.Bool.{Bool, true, false, ◌&&◌}
use mathlib.Core.List.{List, [], ◌∷◌}
use mathlib.Core.Logic.{◌⊎◌}
use mathlib.Core.Path.{◌≡◌}
use Prim.Native.Nat.{ℕ, suc, ◌+◌, ◌-◌, ◌%◌, ◌≤◌, ◌<◌, min}
use lib.ListN.{get_or, length}
use Rattle.schedule.specs.Standing.{Standing}
use Rattle.pmc330_model.specs.Map.{scan_field}
use Rattle.pmc330_model.specs.Schedule.{pass_length, interval, is_differential, is_uniform, is_timed, is_trigger_only, in_odd_pass, slot_of, ends_pass}
use Rattle.pmc330_model.specs.Plan.{plan_of}
use Rattle.pmc330_model.specs.Board.{idle_cycle}
use Rattle.pmc330_model.specs.Logbook.{Event, CycleSince, idle, since, Logbook, last_store, stores_since, interrupted, stores_made}
use Rattle.pmc330_model.specs.declared.Registers.{Registers}
use Rattle.pmc330_model.specs.declared.Cycle.{Cycle}
use Rattle.pmc330_model.specs.declared.Board.{Board}

-- the logbook of a board: what the board holds, with a tick, a running cycle and events
abbrev pub book_of : Board → (tick : ℕ) → CycleSince → List Event → Logbook
book_of b tick cycle events =
    record {
      range = b.range;
      registers = b.registers;
      gains = b.gains;
      inputs = b.inputs;
      tick = tick;
      taken = b.taken;
      cycle = cycle;
      events = events;
    }

-- the mailboxes, the counts of unread stores and pending are what the events say
pub record Memory (events : List Event) (codes unread : List ℕ) (pending : Bool) : Type 0 where
  pub codes_long : length codes ≡ 32
  pub unread_long : length unread ≡ 32
  pub small : (s : ℕ) → get_or codes s 0 < 65536
  pub code : (s : ℕ) → s < 32 → get_or codes s 0 ≡ last_store s events
  pub count : (s : ℕ) → s < 32 → get_or unread s 0 ≡ min 2 (stores_since s events)
  pub interrupt : pending ≡ interrupted events

-- question 7 of every write to 04H and 10H
pub record Limits (r : Registers) : Type 0 where
  pub scan : scan_field r.control ≤ 5
  pub start : r.start ≤ 31
  pub end : r.end ≤ 31

-- what questions 9 and 10 leave of a cycle's registers
pub record Startable (r : Registers) : Type 0 where
  pub ordered : r.start ≤ r.end
  pub most : r.end ≤ 31
  pub half : is_differential r ≡ true → r.end ≤ 15
  pub slow : is_uniform r ≡ true → 64 ≤ interval r

-- conversion k is next: its pass has that parity, if differential, and the conversion before it, if any, that slot
pub record NextIs (r : Registers) (k : ℕ) (odd : Bool) (slot : ℕ) : Type 0 where
  pub parity : odd ≡ (is_differential r && in_odd_pass r k)
  pub before : (j : ℕ) → k ≡ suc j → slot ≡ slot_of r j

-- a cycle in time: k is the next conversion
pub record Timed (r : Registers) (T tick : ℕ) (c : Cycle) : Type 0 where
  pub k : ℕ
  pub timed : is_timed r ≡ true
  pub stands : Standing (plan_of r) T tick k c.timer
  pub next : NextIs r k c.odd c.slot

-- the conversion of the last taken trigger waits for the next one
pub record TriggerTaken (r : Registers) (tick : ℕ) (triggers : List ℕ) (c : Cycle) : Type 0 where
  pub last : ℕ
  pub earlier : List ℕ
  pub are : triggers ≡ (last ∷ earlier)
  pub waiting : c.waiting ≡ true
  pub lag : c.timer.lag ≡ last + 64 - tick
  pub taken : last ≤ tick
  pub ends : c.timer.ends ≡ ends_pass r (length earlier)

pub record Untriggered (triggers : List ℕ) (c : Cycle) : Type 0 where
  pub are : triggers ≡ []
  pub waiting : c.waiting ≡ false
  pub lag : c.timer.lag ≡ 0

-- an armed cycle: the next conversion's number is that of the triggers taken
pub record Armed (r : Registers) (tick : ℕ) (triggers : List ℕ) (c : Cycle) : Type 0 where
  pub timed : is_timed r ≡ false
  pub trigger_only : is_trigger_only r ≡ true
  pub running : c.timer.running ≡ true
  pub index : c.timer.index ≡ length triggers % pass_length r
  pub next : NextIs r (length triggers) c.odd c.slot
  pub flight : TriggerTaken r tick triggers c ⊎ Untriggered triggers c

pub record RunningAgrees (r : Registers) (T tick : ℕ) (triggers : List ℕ) (c : Cycle) : Type 0 where
  pub startable : Startable r
  pub mode : Timed r T tick c ⊎ Armed r tick triggers c

abbrev pub CycleAgrees : Registers → (tick : ℕ) → CycleSince → Cycle → Type 0
CycleAgrees r tick idle c = c ≡ idle_cycle
CycleAgrees r tick (since T triggers) c = RunningAgrees r T tick triggers c

pub record Agrees (b : Board) (tick : ℕ) (cycle : CycleSince) (events : List Event) : Type 0 where
  pub memory : Memory events b.codes b.unread b.pending
  pub taken : b.taken < 65536
  pub limits : Limits b.registers
  pub running : CycleAgrees b.registers tick cycle b.cycle

-- a logbook agrees with a board
pub record Related (l : Logbook) (b : Board) : Type 0 where
  pub tick : ℕ
  pub cycle : CycleSince
  pub events : List Event
  pub same : l ≡ book_of b tick cycle events
  pub agrees : Agrees b tick cycle events

-- a logbook agrees with a board after some more stores
pub record Moved (l : Logbook) (b : Board) (made : ℕ) (before : List Event) : Type 0 where
  pub tick : ℕ
  pub cycle : CycleSince
  pub events : List Event
  pub same : l ≡ book_of b tick cycle events
  pub agrees : Agrees b tick cycle events
  pub count : stores_made events ≡ made + stores_made before
