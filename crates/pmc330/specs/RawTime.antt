-- What the steps of time on a held board promise, byte for byte. Nothing that a caller may cite stands here.
use Rattle.std.specs.Prelude.{ℕ, ◌+◌, ◌%◌, min, Bool, ◌&&◌, ◌||◌, ◌==◌, if◌then◌else◌, nat_le, nat_lt, set, slice_index}
use Rattle.schedule.specs.Scan.{Effects}
use Rattle.schedule.specs.declared.Timer.{Timer}
use Rattle.pmc330_model.specs.Schedule.{is_differential, is_single, code_at, formatted_by, is_interrupting}
use Rattle.pmc330_model.specs.Plan.{plan_of}
use Rattle.pmc330_model.specs.declared.Board.{Board}
use Rattle.pmc330.specs.Raw.{is_set, registers_of}
use Rattle.pmc330.specs.declared.raw.RawBoard.{RawBoard}
use Rattle.pmc330.specs.declared.raw.time.Movable.{Movable}

-- no event comes in n ticks
abbrev pub is_quiet_for : (n : ℕ) → Timer → Bool
is_quiet_for n t = (t.lead == 0 || nat_lt n t.lead) && (t.lag == 0 || nat_lt n t.lag)

-- what time may change of a board
abbrev pub movable_of : Board → Movable
movable_of b = record { codes = b.codes; unread = b.unread; pending = b.pending; taken = b.taken; cycle = b.cycle }

-- a beginning and a store of a scan
abbrev pub raw_taken : (index : ℕ) → RawBoard → RawBoard
raw_taken index h =
    record h {
      taken = code_at h.range (registers_of h) h.gains h.inputs ((h.start + index) % 32);
      waiting = 1;
      slot = (h.start + index + (if is_differential (registers_of h) && is_set h.odd then 16 else 0)) % 32;
      odd =
          if is_differential (registers_of h) && nat_le (plan_of (registers_of h)).last index
          then (if is_set h.odd then 0 else 1)
          else h.odd;
    }

abbrev pub raw_put : (slot : ℕ) (ends : Bool) → RawBoard → RawBoard
raw_put slot ends h =
    record h {
      codes = set h.codes (slot % 32) (formatted_by (registers_of h) h.taken);
      unread = set h.unread (slot % 32) (min 2 (slice_index h.unread (slot % 32) + 1));
      pending = if is_interrupting (registers_of h) ends then 1 else h.pending;
    }

abbrev pub raw_stored : (ends : Bool) → RawBoard → RawBoard
raw_stored ends h =
    record (raw_put h.slot ends h) {
      waiting = 0;
      slot = if is_single (registers_of h) && ends then 0 else h.slot;
      odd = if is_single (registers_of h) && ends then 0 else h.odd;
    }

abbrev pub raw_effects : Effects RawBoard
raw_effects = record { taken = raw_taken; stored = raw_stored }
