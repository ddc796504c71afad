-- The schedule of a scan, in ticks from its start: what the countdowns of its timer are held to.
use Rattle.std.specs.Prelude.{ℕ, zero, suc, ◌+◌, ◌*◌, ◌/◌, ◌%◌, ◌≤◌, ◌<◌, Bool, not, ◌&&◌, ◌||◌, Option, Some, None, if◌then◌else◌, ◌==◌, nat_lt}
use Rattle.schedule.specs.declared.Plan.{Plan}

-- the conversions of a pass
abbrev pub length_of : Plan → ℕ
length_of p = p.last + 1

-- the ticks of a pass
abbrev pub period : Plan → ℕ
period p = p.last * p.step + p.turn

-- conversion k is in pass k / m, at place k % m, and begins so many ticks after the start
unfoldable pub begins : Plan → (k : ℕ) → ℕ
begins p k = p.first + k / length_of p * period p + k % length_of p * p.step

abbrev pub ends_pass : Plan → (k : ℕ) → Bool
ends_pass p k = k % length_of p + 1 == length_of p

-- single: one pass
abbrev pub is_scheduled : Plan → (k : ℕ) → Bool
is_scheduled p k = not p.single || nat_lt k (length_of p)

-- each conversion is stored before the next one begins, or at that very tick
pub record IsApart (p : Plan) : Type 0 where
  pub some : 0 < p.delay
  pub step : p.delay ≤ p.step
  pub turn : p.delay ≤ p.turn

-- the first of the n numbers from k on that passes the test
unfoldable pub first_from : (test : ℕ → Bool) (n k : ℕ) → Option ℕ
first_from test zero k = None
first_from test (suc n) k = if test k then Some k else first_from test n (suc k)

-- the conversion with start + its beginning + delay = tick, if any. Conversion k begins k ticks after the start or later, so that
-- the numbers up to the tick are enough to search
unfoldable pub due_at : Plan → (delay start tick : ℕ) → Option ℕ
due_at p delay start tick = first_from (λ k. is_scheduled p k && (start + begins p k + delay == tick)) (suc tick) 0
