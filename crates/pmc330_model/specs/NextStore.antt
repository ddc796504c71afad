-- The next store as the code has it, without counting ticks. That this is what the search tick by tick finds is proved in
-- proofs/NextStores.antt. No sentence rests on it.
use Rattle.std.specs.Prelude.{ℕ, ◌+◌, ◌-◌, ◌*◌, Bool, ◌&&◌, ◌||◌, if◌then◌else◌, ◌==◌, nat_le, nat_lt}
use Rattle.schedule.specs.declared.Timer.{Timer}
use Rattle.pmc330_model.specs.Schedule.{pass_length, interval, is_uniform, is_single, is_timed}
use Rattle.pmc330_model.specs.declared.Registers.{Registers}

-- the conversion in progress is stored before another begins
abbrev pub is_store_next : Timer → Bool
is_store_next t = nat_lt 0 t.lag && (t.lead == 0 || nat_le t.lag t.lead)

-- conversions begin less than 64 ticks apart, so that each drops the one before: question 10 keeps every list of calls from it
abbrev pub is_crowded : Registers → Bool
is_crowded r = is_uniform r && (nat_lt 0 (interval r) && nat_lt (interval r) 64)

-- the ticks from a beginning at a place of its pass to the next store, 0 if none comes. Crowded, only the last one of a single
-- cycle is stored
abbrev pub store_after_beginning : Registers → (index : ℕ) → ℕ
store_after_beginning r index =
    if is_crowded r then (if is_single r then 64 + (pass_length r - (index + 1)) * interval r else 0) else 64

-- the sum of two spans of ticks, 0 if either is none
abbrev pub joined_ticks : (n k : ℕ) → ℕ
joined_ticks n k = if n == 0 || k == 0 then 0 else n + k

-- the ticks to the next store of a running cycle in time, 0 if none comes
abbrev pub ticks_to_store : Registers → Timer → ℕ
ticks_to_store r t = if is_store_next t then t.lag else joined_ticks t.lead (store_after_beginning r t.index)

-- as far as one advance reaches
abbrev pub within_advance : (n : ℕ) → ℕ
within_advance n = if nat_le n 16_777_216 then n else 0

-- the next store of any board
abbrev pub ticks_to_next_store : Registers → Timer → ℕ
ticks_to_next_store r t = if t.running && is_timed r then within_advance (ticks_to_store r t) else 0
