-- The times of a scan as the registers set them, for the timer that keeps them (schedule). That these are the formulas' is proved in
-- proofs/Schedule.antt.
use Rattle.std.specs.Prelude.{ℕ, ◌+◌, ◌-◌, if◌then◌else◌}
use Rattle.schedule.specs.declared.Plan.{Plan}
use Rattle.pmc330_model.specs.Schedule.{interval, is_uniform, is_burst, is_single, burst_delay}
use Rattle.pmc330_model.specs.declared.Registers.{Registers}

-- ticks from a beginning to the next one within a pass; in external trigger only none comes in time
abbrev pub step_of : Registers → ℕ
step_of r = if is_uniform r then interval r else if is_burst r then 120 else 0

-- D more at the end of a pass; a burst's first beginning is part of its start, and each store comes 64 ticks after its beginning
abbrev pub plan_of : Registers → Plan
plan_of r =
    record {
      last = r.end - r.start;
      first = if is_uniform r then interval r else 0;
      step = step_of r;
      turn = step_of r + burst_delay r;
      single = is_single r;
      delay = 64;
    }
