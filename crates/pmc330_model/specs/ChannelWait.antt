-- How long a channel waits for its next store; beside it the wait of a slot, that of a channel in burst mode, and that no figure below
-- 64 would hold for both modes. Stores are events of the logbook, to which sentences 2 and 3 hold the board. Proved in
-- proofs/ChannelWait.antt.
use Rattle.std.specs.Prelude.{ℕ, ◌+◌, ◌*◌, ◌≤◌, ◌<◌, Bool, true, false, not, ◌&&◌, ◌||◌, List, [], ◌∷◌, ◌++◌, ◌≡◌, if◌then◌else◌, ◌==◌, nat_le, nat_lt}
use Rattle.pmc330_model.specs.Schedule.{is_uniform, is_burst, is_continuous, is_differential, slot_of, pass_ticks}
use Rattle.pmc330_model.specs.Calls.{Call, write, advance}
use Rattle.pmc330_model.specs.Logbook.{Event, was_reset, cycle_start, Store, store, Logbook, is_idle, logged, logbook_of}
use Rattle.pmc330_model.specs.Sentences.{stops_or_resets}
use Rattle.pmc330_model.specs.declared.Registers.{Registers}

-- ---- the list

-- whether no call of a list is a stop or reset
unfoldable pub runs_on : Logbook → List Call → Bool
runs_on l [] = true
runs_on l (call ∷ calls) = not (stops_or_resets l call) && runs_on (logged l call) calls

-- A list of calls in which a cycle starts: the calls before, the call that starts it, and the calls after it, at least up to the one in
-- which the span ends. A list that stops or resets later begins with such a list
pub record CycleList : Type 0 where
  pub range : ℕ
  pub before : List Call
  pub start : Call
  pub during : List Call

-- the logbook before the start, whose tick is the cycle's T, and that of the whole list
abbrev pub at_start : CycleList → Logbook
at_start c = logbook_of c.range c.before

abbrev pub at_end : CycleList → Logbook
at_end c = logbook_of c.range (c.before ++ (c.start ∷ c.during))

-- the registers that it starts with
abbrev pub registers_of : CycleList → Registers
registers_of c = (at_start c).registers

pub record RunsContinuously (c : CycleList) : Type 0 where
  pub valid : c.range < 4
  -- no cycle runs before the call, one runs after it
  pub idle_before : is_idle (at_start c).cycle ≡ true
  pub runs_after : is_idle (logged (at_start c) c.start).cycle ≡ false
  pub mode : is_continuous (registers_of c) ≡ true
  -- no stop or reset comes from that start to the span's end
  pub unstopped : runs_on (logged (at_start c) c.start) c.during ≡ true

-- ---- the span

-- a span of ticks that the list advances through, from T on; it may begin and end inside advances
pub record Span (c : CycleList) (t length : ℕ) : Type 0 where
  pub from : (at_start c).tick ≤ t
  pub to : t + length ≤ (at_end c).tick

-- a span from tick t covers t + 1 to its end
abbrev pub covers : (t end tick : ℕ) → Bool
covers t end tick = nat_lt t tick && nat_le tick end

-- whether a store since the last cycle start or reset passes a test
unfoldable pub any_store : (test : Store → Bool) → List Event → Bool
any_store test [] = false
any_store test (was_reset ∷ earlier) = false
any_store test (cycle_start ∷ earlier) = false
any_store test (store made ∷ earlier) = test made || any_store test earlier
any_store test (_ ∷ earlier) = any_store test earlier

-- the span has at least one store in a slot that passes a test
abbrev pub span_stores : (slots : ℕ → Bool) → (c : CycleList) → (t length : ℕ) → Bool
span_stores slots c t length = any_store (λ made. slots made.slot && covers t (t + length) made.tick) (at_end c).events

-- a scanned channel
pub record Scanned (r : Registers) (channel : ℕ) : Type 0 where
  pub first : r.start ≤ channel
  pub last : channel ≤ r.end

-- whether a slot is one of a channel's: its own number, or if differential 16 more. No two scanned channels share one: differential
-- ones are at most 15
abbrev pub is_slot_of : Registers → (channel slot : ℕ) → Bool
is_slot_of r channel slot = slot == channel || is_differential r && slot == channel + 16

-- ---- the sentence

-- any span of one pass plus 64 ticks has at least one store of every scanned channel; here with any figure for the 64
abbrev pub ChannelWaits : (more : ℕ) → Type 0
ChannelWaits more =
    (c : CycleList) → RunsContinuously c
    → (t channel : ℕ) → Span c t (pass_ticks (registers_of c) + more) → Scanned (registers_of c) channel
    → span_stores (is_slot_of (registers_of c) channel) c t (pass_ticks (registers_of c) + more) ≡ true

abbrev pub EveryWait : Type 0
EveryWait = ChannelWaits 64

-- ---- beside it: a slot

-- Single ended or under calibration one pass plus 64 ticks as well; differential two passes plus 64, since a slot takes its channel's
-- store in every other pass
abbrev pub slot_passes : Registers → ℕ
slot_passes r = if is_differential r then 2 else 1

-- of the slot of any conversion
abbrev pub EverySlotWait : Type 0
EverySlotWait =
    (c : CycleList) → RunsContinuously c
    → (t k : ℕ) → Span c t (slot_passes (registers_of c) * pass_ticks (registers_of c) + 64)
    → span_stores (λ slot. slot_of (registers_of c) k == slot) c t (slot_passes (registers_of c) * pass_ticks (registers_of c) + 64) ≡ true

-- ---- beside it: burst mode, where a pass alone is enough

abbrev pub EveryBurstWait : Type 0
EveryBurstWait =
    (c : CycleList) → RunsContinuously c → is_burst (registers_of c) ≡ true
    → (t channel : ℕ) → Span c t (pass_ticks (registers_of c)) → Scanned (registers_of c) channel
    → span_stores (is_slot_of (registers_of c) channel) c t (pass_ticks (registers_of c)) ≡ true

-- ---- the figure is the best one: in uniform mode, at t = T, one tick less can miss a channel

-- uniform continuous, single ended, channels 0 and 1, I = 64 × 1: a pass takes 128 ticks; channel 0 is stored at T + 128,
-- channel 1 at T + 192
abbrev pub short_list : CycleList
short_list =
    record {
      range = 1;
      before = write 16 0x04 0x0909 ∷ write 16 0x10 0x0100 ∷ write 8 0x09 64 ∷ write 16 0x0c 1 ∷ [];
      start = write 16 0x24 1;
      during = advance 192 ∷ [];
    }

-- at t = T, a span of one pass plus 63 ticks has no store of channel 1
pub record ShortMisses : Type 0 where
  pub continuous : RunsContinuously short_list
  pub uniform : is_uniform (registers_of short_list) ≡ true
  pub scanned : Scanned (registers_of short_list) 1
  pub span : Span short_list (at_start short_list).tick (pass_ticks (registers_of short_list) + 63)
  pub missed :
      span_stores (is_slot_of (registers_of short_list) 1) short_list (at_start short_list).tick (pass_ticks (registers_of short_list) + 63)
      ≡ false

-- so that the sentence holds for no figure below 64
abbrev pub NoShorterWait : Type 0
NoShorterWait = (more : ℕ) → more < 64 → ChannelWaits more → ⊥
