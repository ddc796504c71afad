-- What a schedule does to a board, tick by tick from the start of its scan: found by search, with no timer.
use Rattle.std.specs.Prelude.{ℕ, zero, suc, ◌+◌, ◌%◌, Option, Some, None, is_some, if◌then◌else◌}
use Rattle.schedule.specs.Scan.{Effects}
use Rattle.schedule.specs.Schedule.{length_of, ends_pass, due_at}
use Rattle.schedule.specs.declared.Plan.{Plan}

-- the conversion that is due is stored, if one is; it begins
unfoldable pub store_due : {B : Type 0} → Plan → Effects B → Option ℕ → B → B
store_due p e None b = b
store_due p e (Some k) b = e.stored (ends_pass p k) b

unfoldable pub begin_due : {B : Type 0} → Plan → Effects B → Option ℕ → B → B
begin_due p e None b = b
begin_due p e (Some k) b = e.taken (k % length_of p) b

-- a tick: a store comes before a beginning
abbrev pub scheduled_tick : {B : Type 0} → Plan → Effects B → (tick : ℕ) → B → B
scheduled_tick p e tick b = begin_due p e (due_at p 0 0 tick) (store_due p e (due_at p p.delay 0 tick) b)

-- the start, and the n ticks after it
unfoldable pub by_schedule : {B : Type 0} → Plan → Effects B → (n : ℕ) → B → B
by_schedule p e zero b = scheduled_tick p e 0 b
by_schedule p e (suc n) b = scheduled_tick p e (suc n) (by_schedule p e n b)

-- the stores of these n ticks
unfoldable pub stores_by_schedule : Plan → (n : ℕ) → ℕ
stores_by_schedule p zero = 0
stores_by_schedule p (suc n) = stores_by_schedule p n + (if is_some (due_at p p.delay 0 (suc n)) then 1 else 0)
