-- How far the countdowns of a timer reach: no farther than the spans of its plan.
use mathlib.Core.Bool.{Bool, cond, ◌&&◌}
use Prim.Native.Nat.{ℕ, zero, suc, ◌≤◌}
use native.Mathlib.Omega.{arith}
use lib.Dec.{eqb}
use Rattle.schedule.specs.Timer.{started_timer, elapsed_by, begun_timer}
use Rattle.schedule.specs.Scan.{Effects, Scan, scan, elapsed, store_if, begin_if, ticked, advanced}
use Rattle.schedule.specs.declared.Plan.{Plan}
use Rattle.schedule.specs.declared.Timer.{Timer}

-- the next beginning and the next store are at most so many ticks away
pub record Near (beginning store : ℕ) (t : Timer) : Type 0 where
  pub lead : t.lead ≤ beginning
  pub lag : t.lag ≤ store

-- and a plan never sets them farther
pub record Short (beginning store : ℕ) (p : Plan) : Type 0 where
  pub first : p.first ≤ beginning
  pub step : p.step ≤ beginning
  pub turn : p.turn ≤ beginning
  pub delay : p.delay ≤ store

pub elapsed_near : {beginning store : ℕ} (n : ℕ) (t : Timer) → Near beginning store t → Near beginning store (elapsed_by n t)
elapsed_near n t h = record { lead = omega (arith, h.lead); lag = omega (arith, h.lag) }

module _ {beginning store : ℕ} {p : Plan} (short : Short beginning store p) where
  pub started_near : Near beginning store (started_timer p)
  started_near = record { lead = short.first; lag = omega arith }

  pub begun_near : (t : Timer) → Near beginning store (begun_timer p t)
  begun_near t = record { lead = grind (arith, short.step, short.turn); lag = short.delay }

  module _ {B : Type 0} (e : Effects B) where
    abbrev NearBy : Scan B → Type 0
    NearBy s = Near beginning store s.timer

    either : (t : Bool) (a b : Scan B) → NearBy a → NearBy b → NearBy (cond t a b)
    either t a b h g = grind arith

    store_near : (due : Bool) (s : Scan B) → NearBy s → NearBy (store_if p e due s)
    store_near due s h = grind arith

    begin_near : (due : Bool) (s : Scan B) → NearBy s → NearBy (begin_if p e due s)
    begin_near due s h = either (due && s.timer.running) (scan (begun_timer p s.timer) (e.taken s.timer.index s.board)) s (begun_near s.timer) h

    ticked_near : (s : Scan B) → NearBy s → NearBy (ticked p e s)
    unfolding ticked
    ticked_near s h =
        either s.timer.running _ s
        (begin_near (eqb s.timer.lead 1) _ (store_near (eqb s.timer.lag 1) (elapsed 1 s) (elapsed_near 1 s.timer h)))
        h

    pub advanced_near : (n : ℕ) (s : Scan B) → NearBy s → NearBy (advanced p e n s)
    unfolding advanced
    advanced_near zero s h = h
    advanced_near (suc n) s h = advanced_near n (ticked p e s) (ticked_near s h)
