-- Many ticks at once: a board's time is that of its scan, so that what is proved of every scan (schedule) is of boards too.
use mathlib.Core.Bool.{Bool, true, false, cond, ◌&&◌}
use mathlib.Core.Path.{◌≡◌, refl, sym, ap, ◌∙◌}
use Prim.Native.Nat.{ℕ, ◌+◌}
use native.Mathlib.Omega.{arith}
use Rattle.schedule.specs.Timer.{idle_timer, elapsed_by}
use Rattle.schedule.specs.Scan.{Scan, scan}
use Rattle.schedule.specs.Scan as schedule
use Rattle.schedule.specs.declared.Plan.{Plan}
use Rattle.schedule.specs.declared.Timer.{Timer}
use Rattle.schedule.proofs.Jumps as laws
use Rattle.schedule.proofs.Maps.{advanced_seen, stores_seen, advanced_keeps}
use Rattle.pmc330_model.specs.Schedule.{is_single, is_timed}
use Rattle.pmc330_model.specs.Plan.{plan_of}
use Rattle.pmc330_model.specs.Board.{idle_cycle, with_cycle, with_timer, stored, code_taken, stored_in_time, board_effects, scan_of, scanned, advanced, stores_in}
use Rattle.pmc330_model.specs.declared.Registers.{Registers}
use Rattle.pmc330_model.specs.declared.Board.{Board}

-- ---- a scan's board has a timer of its own, that no beginning and no store looks at

abbrev pub timerless : Board → Board
timerless b = with_timer b idle_timer

-- the scan of a board, whose timer is in one place
abbrev pub bare : Board → Scan Board
bare b = scan b.cycle.timer (timerless b)

taken_bare : (index : ℕ) (b : Board) → timerless (code_taken index b) ≡ code_taken index (timerless b)
unfolding code_taken
taken_bare index b = refl

stored_bare : (ends : Bool) (b : Board) → timerless (stored_in_time ends b) ≡ stored_in_time ends (timerless b)
unfolding stored
stored_bare ends b = go (is_single b.registers && ends)
  where
    go :
        (over : Bool)
        → timerless (with_cycle (stored b.cycle.slot ends b) (cond over (record idle_cycle { timer = b.cycle.timer }) (record b.cycle { waiting = false })))
        ≡ with_cycle (stored b.cycle.slot ends (timerless b)) (cond over idle_cycle (record b.cycle { timer = idle_timer; waiting = false }))
    go true = refl
    go false = refl

-- ---- a mode in time

abbrev pub run : Registers → (n : ℕ) → Scan Board → Scan Board
run r n s = schedule.advanced (plan_of r) board_effects n s

abbrev pub stores_of : Registers → (n : ℕ) → Scan Board → ℕ
stores_of r n s = schedule.stores_in (plan_of r) board_effects n s

module _ (n : ℕ) (b : Board) (timed : is_timed b.registers ≡ true) where
  pub timed_board : advanced n b ≡ scanned (run b.registers n (scan_of b))
  unfolding advanced
  timed_board = rw timed refl

  pub timed_stores : stores_in n b ≡ stores_of b.registers n (scan_of b)
  unfolding stores_in
  timed_stores = rw timed refl

  pub bare_advanced : bare (advanced n b) ≡ run b.registers n (bare b)
  bare_advanced = ap bare timed_board ∙ advanced_seen (plan_of b.registers) board_effects board_effects timerless taken_bare stored_bare n (scan_of b)

  pub bare_stores : stores_in n b ≡ stores_of b.registers n (bare b)
  bare_stores = timed_stores ∙ stores_seen (plan_of b.registers) board_effects board_effects timerless taken_bare stored_bare n (scan_of b)

-- ---- the other modes, and a board that does not run

module _ (n : ℕ) (b : Board) where
  pub idle_board : b.cycle.timer.running ≡ false → advanced n b ≡ b
  unfolding advanced
  idle_board stopped = go (is_timed b.registers)
    where
      go : (timed : Bool) → cond timed (scanned (run b.registers n (scan_of b)))
          (cond b.cycle.timer.running (with_timer b (elapsed_by n b.cycle.timer)) b) ≡ b
      go true = ap scanned (laws.idle_stays (plan_of b.registers) board_effects n (scan_of b) stopped)
      go false = rw stopped refl

  pub idle_stores : b.cycle.timer.running ≡ false → stores_in n b ≡ 0
  unfolding stores_in
  idle_stores stopped = go (is_timed b.registers)
    where
      go : (timed : Bool) → cond timed (stores_of b.registers n (scan_of b)) 0 ≡ 0
      go true = laws.idle_stores (plan_of b.registers) board_effects n (scan_of b) stopped
      go false = refl

  pub untimed_board : b.cycle.timer.running ≡ true → is_timed b.registers ≡ false → advanced n b ≡ with_timer b (elapsed_by n b.cycle.timer)
  unfolding advanced
  untimed_board running untimed = rw (untimed, running) refl

  pub untimed_stores : is_timed b.registers ≡ false → stores_in n b ≡ 0
  unfolding stores_in
  untimed_stores untimed = rw untimed refl

-- ---- no ticks

pub no_ticks : (b : Board) → advanced 0 b ≡ b
unfolding advanced schedule.advanced
no_ticks b = go (is_timed b.registers) b.cycle.timer.running
  where
    none : (t : Timer) → elapsed_by 0 t ≡ t
    none t = grind arith

    go : (timed running : Bool) → cond timed (scanned (run b.registers 0 (scan_of b))) (cond running (with_timer b (elapsed_by 0 b.cycle.timer)) b) ≡ b
    go true running = refl
    go false true = ap (with_timer b) (none b.cycle.timer)
    go false false = refl

pub no_stores : (b : Board) → stores_in 0 b ≡ 0
unfolding stores_in schedule.stores_in
no_stores b = go (is_timed b.registers)
  where
    go : (timed : Bool) → cond timed (stores_of b.registers 0 (scan_of b)) 0 ≡ 0
    go true = refl
    go false = refl

-- ---- what time does not change

pub record Fixed (a b : Board) : Type 0 where
  pub range : a.range ≡ b.range
  pub inputs : a.inputs ≡ b.inputs
  pub gains : a.gains ≡ b.gains
  pub registers : a.registers ≡ b.registers

pub advanced_fixed : (n : ℕ) (b : Board) → Fixed (advanced n b) b
unfolding advanced stored code_taken
advanced_fixed n b = go (is_timed b.registers) b.cycle.timer.running
  where
    p : Plan
    p = plan_of b.registers

    go : (timed running : Bool) → Fixed (cond timed (scanned (run b.registers n (scan_of b)))
        (cond running (with_timer b (elapsed_by n b.cycle.timer)) b)) b
    go true running =
        record {
          range = advanced_keeps p board_effects (λ (c : Board). c.range) (λ index c. refl) (λ ends c. refl) n (scan_of b);
          inputs = advanced_keeps p board_effects (λ (c : Board). c.inputs) (λ index c. refl) (λ ends c. refl) n (scan_of b);
          gains = advanced_keeps p board_effects (λ (c : Board). c.gains) (λ index c. refl) (λ ends c. refl) n (scan_of b);
          registers = advanced_keeps p board_effects (λ (c : Board). c.registers) (λ index c. refl) (λ ends c. refl) n (scan_of b);
        }
    go false true = record { range = refl; inputs = refl; gains = refl; registers = refl }
    go false false = record { range = refl; inputs = refl; gains = refl; registers = refl }

-- ---- n ticks and then k ticks are n + k

module _ (n k : ℕ) (b : Board) where
  same_mode : (advanced n b).registers ≡ b.registers
  same_mode = (advanced_fixed n b).registers

  -- as the scans have them
  module _ (timed : is_timed b.registers ≡ true) where
    still_timed : is_timed (advanced n b).registers ≡ true
    still_timed = ap is_timed same_mode ∙ timed

    then_board : bare (advanced k (advanced n b)) ≡ run b.registers k (run b.registers n (bare b))
    then_board =
        bare_advanced k (advanced n b) still_timed
        ∙ ap (λ (r : Registers). run r k (bare (advanced n b))) same_mode
        ∙ ap (run b.registers k) (bare_advanced n b timed)

    then_stores : stores_in k (advanced n b) ≡ stores_of b.registers k (run b.registers n (bare b))
    then_stores =
        bare_stores k (advanced n b) still_timed
        ∙ ap (λ (r : Registers). stores_of r k (bare (advanced n b))) same_mode
        ∙ ap (stores_of b.registers k) (bare_advanced n b timed)

  pub advanced_add : advanced k (advanced n b) ≡ advanced (n + k) b
  advanced_add = go (is_timed b.registers) refl b.cycle.timer.running refl
    where
      go : (timed : Bool) → is_timed b.registers ≡ timed → (running : Bool) → b.cycle.timer.running ≡ running → advanced k (advanced n b) ≡ advanced (n + k) b
      go true timed running runs =
          ap scanned (then_board timed ∙ laws.advanced_add (plan_of b.registers) board_effects n k (bare b) ∙ sym (bare_advanced (n + k) b timed))
      go false untimed true runs =
          ap (advanced k) (untimed_board n b runs untimed)
          ∙ untimed_board k (with_timer b (elapsed_by n b.cycle.timer)) runs untimed
          ∙ ap (with_timer b) (elapsed_add b.cycle.timer)
          ∙ sym (untimed_board (n + k) b runs untimed)
        where
          elapsed_add : (t : Timer) → elapsed_by k (elapsed_by n t) ≡ elapsed_by (n + k) t
          elapsed_add t = grind arith
      go false untimed false stopped =
          ap (advanced k) (idle_board n b stopped) ∙ idle_board k b stopped ∙ sym (idle_board (n + k) b stopped)

  pub stores_add : stores_in n b + stores_in k (advanced n b) ≡ stores_in (n + k) b
  stores_add = go (is_timed b.registers) refl
    where
      go : (timed : Bool) → is_timed b.registers ≡ timed → stores_in n b + stores_in k (advanced n b) ≡ stores_in (n + k) b
      go true timed =
          rw (bare_stores n b timed, then_stores timed)
          (laws.stores_add (plan_of b.registers) board_effects n k (bare b) ∙ sym (bare_stores (n + k) b timed))
      go false untimed =
          rw (untimed_stores n b untimed, untimed_stores k (advanced n b) (ap is_timed same_mode ∙ untimed)) (sym (untimed_stores (n + k) b untimed))
