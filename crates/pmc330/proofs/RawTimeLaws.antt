-- Ticks in which no event comes, and a span that comes back, on a held board.
use mathlib.Core.Bool.{Bool, true, false, not, cond, ◌&&◌, ◌||◌, beq}
use mathlib.Core.Path.{◌≡◌, refl, sym, ap, ap₂, subst, ◌∙◌}
use Prim.Native.Nat.{ℕ, zero, suc, ◌+◌, ◌%◌}
use Rattle.std.specs.Prelude.{nat_le}
use native.Mathlib.Omega.{arith}
use lib.Dec.{eqb}
use Rattle.std.specs.Cmp.{booleans_Decides}
use Rattle.std.proofs.lemmas.Bool.{eqb-true, false≢true}
use Rattle.std.proofs.lemmas.Slice.Eq.{bytes_eq-Decides}
use Rattle.schedule.specs.Timer.{elapsed_by}
use Rattle.schedule.specs.Scan.{Effects, Scan, elapsed, store_if, begin_if}
use Rattle.schedule.specs.Scan as schedule
use Rattle.schedule.specs.declared.Plan.{Plan}
use Rattle.schedule.specs.declared.Timer.{Timer}
use Rattle.schedule.proofs.Jumps.{Within, jump, jump_stores}
use Rattle.schedule.proofs.Maps.{advanced_seen, stores_seen, advanced_holds}
use Rattle.pmc330_model.specs.Schedule.{is_timed, is_differential, code_at}
use Rattle.pmc330_model.specs.Plan.{plan_of}
use Rattle.pmc330_model.specs.Board.{stored, code_taken, stored_in_time, board_effects, with_timer, scan_of, scanned, advanced, stores_in}
use Rattle.pmc330_model.specs.declared.Board.{Board}
use Rattle.pmc330_model.proofs.Jumps.{Fixed, advanced_fixed, timed_board, timed_stores, untimed_board, untimed_stores}
use Rattle.pmc330.specs.Raw.{Plain, board_of, registers_of, is_set}
use Rattle.pmc330.specs.RawTime.{is_quiet_for, movable_of, raw_taken, raw_stored, raw_effects}
use Rattle.pmc330.specs.declared.raw.RawBoard.{RawBoard}
use Rattle.pmc330.specs.declared.raw.time.Movable.{Movable}
use Rattle.pmc330_model.specs.declared.Cycle.{Cycle}
use Rattle.pmc330_model.specs.contracts.CyclePartialEq.TheImpl as cycle_eq
use Rattle.pmc330.specs.contracts.raw.time.MovablePartialEq.TheImpl as movable_eq

-- ---- ticks in which no event comes

module _ {B : Type 0} (p : Plan) (e : Effects B) (s : Scan B) (running : s.timer.running ≡ true) where
  none : (t : Timer) → t ≡ elapsed_by 0 t
  none t = grind arith

  within_lead : (n : ℕ) → is_quiet_for n s.timer ≡ true → Within n s.timer.lead
  within_lead n quiet = grind arith

  within_lag : (n : ℕ) → is_quiet_for n s.timer ≡ true → Within n s.timer.lag
  within_lag n quiet = grind arith

  no_beginning : (n : ℕ) → is_quiet_for (suc n) s.timer ≡ true → eqb s.timer.lead (suc n) ≡ false
  no_beginning n quiet = grind arith

  no_store : (n : ℕ) → is_quiet_for (suc n) s.timer ≡ true → eqb s.timer.lag (suc n) ≡ false
  no_store n quiet = grind arith

  quiet_scan : (n : ℕ) → is_quiet_for n s.timer ≡ true → schedule.advanced p e n s ≡ elapsed n s
  unfolding schedule.advanced
  quiet_scan zero quiet = ap (λ (t : Timer). schedule.scan t s.board) (none s.timer)
  quiet_scan (suc n) quiet =
      jump p e (suc n) s running (omega arith) (within_lead (suc n) quiet) (within_lag (suc n) quiet)
      ∙ ap₂ (λ (begins due : Bool). begin_if p e begins (store_if p e due (elapsed (suc n) s))) (no_beginning n quiet) (no_store n quiet)

  quiet_stores : (n : ℕ) → is_quiet_for n s.timer ≡ true → schedule.stores_in p e n s ≡ 0
  unfolding schedule.stores_in
  quiet_stores zero quiet = refl
  quiet_stores (suc n) quiet =
      jump_stores p e (suc n) s running (omega arith) (within_lead (suc n) quiet) (within_lag (suc n) quiet)
      ∙ ap (λ (due : Bool). cond due 1 0) (no_store n quiet)

module _ (n : ℕ) (b : Board) (running : b.cycle.timer.running ≡ true) (waits : (not (is_timed b.registers) || is_quiet_for n b.cycle.timer) ≡ true) where
  is_quiet : is_timed b.registers ≡ true → is_quiet_for n b.cycle.timer ≡ true
  is_quiet timed = ap (λ (t : Bool). not t || is_quiet_for n b.cycle.timer) (sym timed) ∙ waits

  pub waited_board : advanced n b ≡ with_timer b (elapsed_by n b.cycle.timer)
  waited_board = go (is_timed b.registers) refl
    where
      go : (timed : Bool) → is_timed b.registers ≡ timed → advanced n b ≡ with_timer b (elapsed_by n b.cycle.timer)
      go true timed = timed_board n b timed ∙ ap scanned (quiet_scan (plan_of b.registers) board_effects (scan_of b) running n (is_quiet timed))
      go false untimed = untimed_board n b running untimed

  pub waited_stores : stores_in n b ≡ 0
  waited_stores = go (is_timed b.registers) refl
    where
      go : (timed : Bool) → is_timed b.registers ≡ timed → stores_in n b ≡ 0
      go true timed = timed_stores n b timed ∙ quiet_stores (plan_of b.registers) board_effects (scan_of b) running n (is_quiet timed)
      go false untimed = untimed_stores n b untimed

-- ---- a span that comes back

both : (x y : Bool) → (x && y) ≡ true → (x ≡ true) × (y ≡ true)
both true y h = (refl, h)
both false y h = absurd (false≢true h)

flag_same : (x y : Bool) → beq x y ≡ true → x ≡ y
flag_same x y = (booleans_Decides x y).0

timer_same :
    (a b : Timer)
    → (beq a.running b.running && (eqb a.lead b.lead && (eqb a.lag b.lag && (beq a.ends b.ends && eqb a.index b.index)))) ≡ true
    → a ≡ b
timer_same a b h = grind arith

cycle_same : (a b : Cycle) → cycle_eq.ghosts.eq a b ≡ true → a ≡ b
cycle_same a b h =
    let h1 = both _ _ h in
    let h2 = both _ _ h1.1 in
    let h3 = both _ _ h2.1 in
    λ i.
    record {
      timer = timer_same a.timer b.timer h1.0 i;
      waiting = flag_same a.waiting b.waiting h2.0 i;
      slot = eqb-true a.slot b.slot h3.0 i;
      odd = flag_same a.odd b.odd h3.1 i;
    }

pub movable_same : (a b : Movable) → movable_eq.ghosts.eq a b ≡ true → a ≡ b
movable_same a b h =
    let h1 = both _ _ h in
    let h2 = both _ _ h1.1 in
    let h3 = both _ _ h2.1 in
    let h4 = both _ _ h3.1 in
    λ i.
    record {
      codes = (bytes_eq-Decides a.codes b.codes).0 h1.0 i;
      unread = (bytes_eq-Decides a.unread b.unread).0 h2.0 i;
      pending = flag_same a.pending b.pending h3.0 i;
      taken = eqb-true a.taken b.taken h4.0 i;
      cycle = cycle_same a.cycle b.cycle h4.1 i;
    }

-- time changes nothing else
pub came_back : (n : ℕ) (now next : Board) → next ≡ advanced n now → movable_of next ≡ movable_of now → next ≡ now
came_back n now next is same =
    let fixed : Fixed next now = subst (λ (b : Board). Fixed b now) (sym is) (advanced_fixed n now) in
    λ i.
    record {
      range = fixed.range i;
      inputs = fixed.inputs i;
      gains = fixed.gains i;
      codes = (same i).codes;
      unread = (same i).unread;
      pending = (same i).pending;
      registers = fixed.registers i;
      taken = (same i).taken;
      cycle = (same i).cycle;
    }

-- ---- a scan's beginning and store, byte for byte

taken_seen : (index : ℕ) (h : RawBoard) → board_of (raw_taken index h) ≡ code_taken index (board_of h)
unfolding code_taken
taken_seen index h = go (is_differential (registers_of h) && nat_le (plan_of (registers_of h)).last index) (is_set h.odd) refl
  where
    after : Bool → Board
    after odd =
        record (board_of h) {
          taken = code_at h.range (registers_of h) h.gains h.inputs ((h.start + index) % 32);
          cycle = record (board_of h).cycle {
            waiting = true;
            slot = (h.start + index + cond (is_differential (registers_of h) && is_set h.odd) 16 0) % 32;
            odd = odd;
          };
        }

    go :
        (turns odd : Bool) → is_set h.odd ≡ odd
        → after (is_set (cond turns (cond odd 0 1) h.odd)) ≡ after (cond turns (not odd) (is_set h.odd))
    go true true e = refl
    go true false e = refl
    go false odd e = refl

stored_seen : (ends : Bool) (h : RawBoard) → board_of (raw_stored ends h) ≡ stored_in_time ends (board_of h)
unfolding stored
stored_seen ends h = grind arith

taken_plain : (index : ℕ) (h : RawBoard) → Plain h → Plain (raw_taken index h)
taken_plain index h p = grind arith

stored_plain : (ends : Bool) (h : RawBoard) → Plain h → Plain (raw_stored ends h)
stored_plain ends h p = grind arith

-- a run of the bytes is a run of the board, leaves what fills the struct, and plain bytes plain
module _ (p : Plan) (n : ℕ) (s : Scan RawBoard) where
  pub run_seen : schedule.scan (schedule.advanced p raw_effects n s).timer (board_of (schedule.advanced p raw_effects n s).board) ≡ schedule.advanced p board_effects n (schedule.scan s.timer (board_of s.board))
  run_seen = advanced_seen p raw_effects board_effects board_of taken_seen stored_seen n s

  pub run_stores_seen : schedule.stores_in p raw_effects n s ≡ schedule.stores_in p board_effects n (schedule.scan s.timer (board_of s.board))
  run_stores_seen = stores_seen p raw_effects board_effects board_of taken_seen stored_seen n s

  pub run_spare : (schedule.advanced p raw_effects n s).board.spare ≡ s.board.spare
  run_spare = advanced_holds p raw_effects (λ (h : RawBoard). h.spare ≡ s.board.spare) (λ index h same. same) (λ ends h same. same) n s refl

  pub run_plain : Plain s.board → Plain (schedule.advanced p raw_effects n s).board
  run_plain = advanced_holds p raw_effects Plain taken_plain stored_plain n s
