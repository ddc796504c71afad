-- What is proved of every plan, and of every board that is a list of numbers, whatever beginnings and stores do to it.
use Rattle.std.specs.Prelude.{ℕ, ◌+◌, ◌*◌, true, List, ◌≡◌}
use Rattle.schedule.specs.Scan.{Effects, Scan, started, converted, converts, advanced, stores_in}
use Rattle.schedule.specs.Schedule.{IsApart}
use Rattle.schedule.specs.Scheduled.{by_schedule, stores_by_schedule}
use Rattle.schedule.specs.declared.Plan.{Plan}

-- n ticks after its start a scan has begun and stored what the schedule has, and nothing else
pub record InTime {B : Type 0} (plan : Plan) (effects : Effects B) (n : ℕ) (b : B) : Type 0 where
  pub board : (advanced plan effects n (started plan effects b)).board ≡ by_schedule plan effects n b
  pub stores : stores_in plan effects n (started plan effects b) ≡ stores_by_schedule plan n

-- n ticks and then k ticks are n + k
pub record Joined {B : Type 0} (plan : Plan) (effects : Effects B) (n k : ℕ) (s : Scan B) : Type 0 where
  pub scan : advanced plan effects k (advanced plan effects n s) ≡ advanced plan effects (n + k) s
  pub stores : stores_in plan effects n s + stores_in plan effects k (advanced plan effects n s) ≡ stores_in plan effects (n + k) s

-- j times n ticks, where n leave the scan as it was
pub record Repeated {B : Type 0} (plan : Plan) (effects : Effects B) (n j : ℕ) (s : Scan B) : Type 0 where
  pub scan : advanced plan effects (j * n) s ≡ s
  pub stores : stores_in plan effects (j * n) s ≡ j * stores_in plan effects n s

-- a store and the next beginning in one step
pub record OneStep {B : Type 0} (plan : Plan) (effects : Effects B) (s : Scan B) : Type 0 where
  pub scan : advanced plan effects s.timer.lead s ≡ converted plan effects s
  pub stores : stores_in plan effects s.timer.lead s ≡ 1

abbrev pub EveryTime : Type 0
EveryTime = (plan : Plan) → IsApart plan → (effects : Effects (List ℕ)) (n : ℕ) (b : List ℕ) → InTime plan effects n b

abbrev pub EverySpan : Type 0
EverySpan = (plan : Plan) (effects : Effects (List ℕ)) (n k : ℕ) (s : Scan (List ℕ)) → Joined plan effects n k s

abbrev pub EveryRepeat : Type 0
EveryRepeat =
    (plan : Plan) (effects : Effects (List ℕ)) (n j : ℕ) (s : Scan (List ℕ))
    → advanced plan effects n s ≡ s → Repeated plan effects n j s

abbrev pub EveryConversion : Type 0
EveryConversion =
    (plan : Plan) (effects : Effects (List ℕ)) (left : ℕ) (s : Scan (List ℕ))
    → s.timer.running ≡ true → converts plan left s.timer ≡ true → OneStep plan effects s
