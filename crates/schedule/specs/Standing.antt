-- Where a timer stands in its schedule: k is the next conversion, of a scan that started at a tick.
use Rattle.std.specs.Prelude.{ℕ, suc, ◌+◌, ◌%◌, ◌≤◌, ◌<◌, ◌≡◌, ◌⊎◌, true, false}
use Rattle.schedule.specs.Schedule.{length_of, begins, ends_pass, is_scheduled}
use Rattle.schedule.specs.declared.Plan.{Plan}
use Rattle.schedule.specs.declared.Timer.{Timer}

-- a conversion that began and is not stored yet
pub record InFlight (p : Plan) (start tick k : ℕ) (t : Timer) : Type 0 where
  pub j : ℕ
  pub last : k ≡ suc j
  pub scheduled : is_scheduled p j ≡ true
  pub some : 0 < t.lag
  pub most : t.lag ≤ p.delay
  pub due : start + begins p j + p.delay ≡ tick + t.lag
  pub ends : t.ends ≡ ends_pass p j

-- no conversion is in progress: all that began were stored
pub record AllStored (p : Plan) (start tick k : ℕ) (t : Timer) : Type 0 where
  pub none : t.lag ≡ 0
  pub past : (i : ℕ) → i < k → start + begins p i + p.delay ≤ tick

-- conversion k is to come, or the schedule has no more
pub record ToCome (p : Plan) (start tick k : ℕ) (t : Timer) : Type 0 where
  pub scheduled : is_scheduled p k ≡ true
  pub some : 0 < t.lead
  pub due : start + begins p k ≡ tick + t.lead

pub record NoMore (p : Plan) (k : ℕ) (t : Timer) : Type 0 where
  pub unscheduled : is_scheduled p k ≡ false
  pub none : t.lead ≡ 0

pub record Standing (p : Plan) (start tick k : ℕ) (t : Timer) : Type 0 where
  pub running : t.running ≡ true
  pub index : t.index ≡ k % length_of p
  pub next : ToCome p start tick k t ⊎ NoMore p k t
  pub flight : InFlight p start tick k t ⊎ AllStored p start tick k t
