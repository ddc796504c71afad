-- The timer of a scan: countdowns to the next beginning and to the next store.
use Rattle.std.specs.Prelude.{ℕ, ◌+◌, ◌-◌, min, Bool, true, false, ◌&&◌, if◌then◌else◌, ◌==◌, nat_le}
use Rattle.schedule.specs.declared.Plan.{Plan}
use Rattle.schedule.specs.declared.Timer.{Timer}

abbrev pub idle_timer : Timer
idle_timer = record { running = false; lead = 0; lag = 0; ends = false; index = 0 }

-- before the first beginning
abbrev pub started_timer : Plan → Timer
started_timer p = record idle_timer { running = true; lead = p.first }

-- n ticks pass
abbrev pub elapsed_by : (n : ℕ) → Timer → Timer
elapsed_by n t = record t { lead = t.lead - n; lag = t.lag - n }

-- the next conversion begins
abbrev pub begun_timer : Plan → Timer → Timer
begun_timer p t =
    let ends : Bool = nat_le p.last t.index in
    record t {
      lead = if (p.single && ends) then 0 else if ends then p.turn else p.step;
      lag = p.delay;
      ends = ends;
      index = if ends then 0 else t.index + 1;
    }

-- the conversion in progress is stored
abbrev pub stored_timer : Plan → Timer → Timer
stored_timer p t = if (p.single && t.ends) then idle_timer else t

-- the ticks to the end of a countdown, if one runs, and at most `left`
abbrev pub step_to : (count left : ℕ) → ℕ
step_to count left = if count == 0 then left else min count left
