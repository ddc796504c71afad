-- A scan of any board: its timer, and the board, which beginnings and stores change.
use Rattle.std.specs.Prelude.{not, nat_lt, nat_le, ℕ, zero, suc, ◌+◌, Bool, ◌&&◌, if◌then◌else◌, ◌==◌}
use Rattle.schedule.specs.declared.Plan.{Plan}
use Rattle.schedule.specs.declared.Timer.{Timer}
use Rattle.schedule.specs.Timer.{started_timer, elapsed_by, begun_timer, stored_timer}

-- what a beginning at a place of its pass, and a store that ends its pass or not, do to a board
pub record Effects (B : Type 0) : Type 0 where
  pub taken : ℕ → B → B
  pub stored : Bool → B → B

pub record Scan (B : Type 0) : Type 0 where
  pub timer : Timer
  pub board : B

abbrev pub scan : {B : Type 0} → Timer → B → Scan B
scan t b = record { timer = t; board = b }

-- n ticks pass, and nothing happens
abbrev pub elapsed : {B : Type 0} → (n : ℕ) → Scan B → Scan B
elapsed n s = scan (elapsed_by n s.timer) s.board

-- the conversion in progress is stored, if that is due
abbrev pub store_if : {B : Type 0} → Plan → Effects B → (due : Bool) → Scan B → Scan B
store_if p e due s = if due then scan (stored_timer p s.timer) (e.stored s.timer.ends s.board) else s

-- the next conversion begins, if that is due and the scan still runs
abbrev pub begin_if : {B : Type 0} → Plan → Effects B → (due : Bool) → Scan B → Scan B
begin_if p e due s =
    if (due && s.timer.running) then scan (begun_timer p s.timer) (e.taken s.timer.index s.board) else s

-- a scan starts: where nothing lies before its first beginning, that is part of the start
abbrev pub started : {B : Type 0} → Plan → Effects B → B → Scan B
started p e b = begin_if p e (p.first == 0) (scan (started_timer p) b)

-- n ticks pass, and in the last of them what is then due happens
abbrev pub jumped : {B : Type 0} → Plan → Effects B → (n : ℕ) → Scan B → Scan B
jumped p e n s = begin_if p e (s.timer.lead == n) (store_if p e (s.timer.lag == n) (elapsed n s))

-- the conversion in progress is stored, and the next one begins
abbrev pub converted : {B : Type 0} → Plan → Effects B → Scan B → Scan B
converted p e s = scan (begun_timer p s.timer) (e.taken s.timer.index (e.stored s.timer.ends s.board))

-- whether these two come next, with nothing between them, in the ticks that are left
abbrev pub converts : Plan → (left : ℕ) → Timer → Bool
converts p left t = nat_lt 0 t.lag && (nat_le t.lag t.lead && (nat_le t.lead left && not (p.single && t.ends)))

-- in the tick to come the conversion in progress is stored
abbrev pub is_store_due : {B : Type 0} → Scan B → Bool
is_store_due s = s.timer.running && (s.timer.lag == 1)

-- one tick: a store comes before a beginning
unfoldable pub ticked : {B : Type 0} → Plan → Effects B → Scan B → Scan B
ticked p e s =
    if s.timer.running
    then begin_if p e (s.timer.lead == 1) (store_if p e (s.timer.lag == 1) (elapsed 1 s))
    else s

-- n ticks, one by one
unfoldable pub advanced : {B : Type 0} → Plan → Effects B → (n : ℕ) → Scan B → Scan B
advanced p e zero s = s
advanced p e (suc n) s = advanced p e n (ticked p e s)

-- the stores made in them
unfoldable pub stores_in : {B : Type 0} → Plan → Effects B → (n : ℕ) → Scan B → ℕ
stores_in p e zero s = 0
stores_in p e (suc n) s = (if is_store_due s then 1 else 0) + stores_in p e n (ticked p e s)

-- the first of n more ticks that makes a store, where `passed` ticks have passed; 0 if none of them does
unfoldable pub first_store : {B : Type 0} → Plan → Effects B → (n passed : ℕ) → Scan B → ℕ
first_store p e zero passed s = 0
first_store p e (suc n) passed s =
    if is_store_due s then suc passed else first_store p e n (suc passed) (ticked p e s)
