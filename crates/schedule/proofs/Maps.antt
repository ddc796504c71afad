-- A scan of one board seen as a scan of another, and what a scan leaves as it was.
use mathlib.Core.Bool.{Bool, true, false, cond, ◌&&◌}
use mathlib.Core.Path.{◌≡◌, refl, ap, ◌∙◌}
use Prim.Native.Nat.{ℕ, zero, suc, ◌+◌}
use native.Mathlib.Omega.{arith}
use lib.Dec.{eqb}
use Rattle.schedule.specs.Timer.{begun_timer, stored_timer}
use Rattle.schedule.specs.Scan.{Effects, Scan, scan, elapsed, store_if, begin_if, is_store_due, ticked, advanced, stores_in}
use Rattle.schedule.specs.declared.Plan.{Plan}

module _ {A : Type 0} {B : Type 0} (p : Plan) (ea : Effects A) (eb : Effects B) (h : A → B)
    (taken : (index : ℕ) (a : A) → h (ea.taken index a) ≡ eb.taken index (h a))
    (stored : (ends : Bool) (a : A) → h (ea.stored ends a) ≡ eb.stored ends (h a)) where
  abbrev pub seen : Scan A → Scan B
  seen s = scan s.timer (h s.board)

  store_seen : (due : Bool) (s : Scan A) → seen (store_if p ea due s) ≡ store_if p eb due (seen s)
  store_seen true s = ap (scan (stored_timer p s.timer)) (stored s.timer.ends s.board)
  store_seen false s = refl

  begin_by : (begins : Bool) (s : Scan A) → seen (cond begins (scan (begun_timer p s.timer) (ea.taken s.timer.index s.board)) s) ≡ cond begins (scan (begun_timer p s.timer) (eb.taken s.timer.index (h s.board))) (seen s)
  begin_by true s = ap (scan (begun_timer p s.timer)) (taken s.timer.index s.board)
  begin_by false s = refl

  begin_seen : (due : Bool) (s : Scan A) → seen (begin_if p ea due s) ≡ begin_if p eb due (seen s)
  begin_seen due s = begin_by (due && s.timer.running) s

  tick_seen : (s : Scan A) → seen (ticked p ea s) ≡ ticked p eb (seen s)
  unfolding ticked
  tick_seen s = go s.timer.running
    where
      go :
          (runs : Bool)
          → seen (cond runs (begin_if p ea (eqb s.timer.lead 1) (store_if p ea (eqb s.timer.lag 1) (elapsed 1 s))) s)
          ≡ cond runs (begin_if p eb (eqb s.timer.lead 1) (store_if p eb (eqb s.timer.lag 1) (elapsed 1 (seen s)))) (seen s)
      go true = begin_seen (eqb s.timer.lead 1) _ ∙ ap (begin_if p eb (eqb s.timer.lead 1)) (store_seen (eqb s.timer.lag 1) (elapsed 1 s))
      go false = refl

  pub advanced_seen : (n : ℕ) (s : Scan A) → seen (advanced p ea n s) ≡ advanced p eb n (seen s)
  unfolding advanced
  advanced_seen zero s = refl
  advanced_seen (suc n) s = advanced_seen n (ticked p ea s) ∙ ap (advanced p eb n) (tick_seen s)

  pub stores_seen : (n : ℕ) (s : Scan A) → stores_in p ea n s ≡ stores_in p eb n (seen s)
  unfolding stores_in
  stores_seen zero s = refl
  stores_seen (suc n) s =
      ap (λ (k : ℕ). cond (is_store_due s) 1 0 + k) (stores_seen n (ticked p ea s) ∙ ap (stores_in p eb n) (tick_seen s))

-- what no beginning and no store changes
module _ {A : Type 0} {B : Type 0} (p : Plan) (e : Effects A) (f : A → B)
    (taken : (index : ℕ) (a : A) → f (e.taken index a) ≡ f a) (stored : (ends : Bool) (a : A) → f (e.stored ends a) ≡ f a) where
  abbrev none : Effects B
  none = record { taken = λ index b. b; stored = λ ends b. b }

  still_tick : (s : Scan B) → (ticked p none s).board ≡ s.board
  unfolding ticked
  still_tick s = grind arith

  still : (n : ℕ) (s : Scan B) → (advanced p none n s).board ≡ s.board
  unfolding advanced
  still zero s = refl
  still (suc n) s = still n (ticked p none s) ∙ still_tick s

  pub advanced_keeps : (n : ℕ) (s : Scan A) → f (advanced p e n s).board ≡ f s.board
  advanced_keeps n s = ap (λ (t : Scan B). t.board) (advanced_seen p e none f taken stored n s) ∙ still n (scan s.timer (f s.board))

-- what every beginning and every store keeps is kept by any ticks
module _ {B : Type 0} (p : Plan) (e : Effects B) (P : B → Type 0)
    (taken : (index : ℕ) (b : B) → P b → P (e.taken index b)) (stored : (ends : Bool) (b : B) → P b → P (e.stored ends b)) where
  store_holds : (due : Bool) (s : Scan B) → P s.board → P (store_if p e due s).board
  store_holds true s h = stored s.timer.ends s.board h
  store_holds false s h = h

  begin_holds : (due : Bool) (s : Scan B) → P s.board → P (begin_if p e due s).board
  begin_holds due s h = go (due && s.timer.running)
    where
      go : (begins : Bool) → P (cond begins (scan (begun_timer p s.timer) (e.taken s.timer.index s.board)) s).board
      go true = taken s.timer.index s.board h
      go false = h

  tick_holds : (s : Scan B) → P s.board → P (ticked p e s).board
  unfolding ticked
  tick_holds s h = go s.timer.running
    where
      go : (runs : Bool) → P (cond runs (begin_if p e (eqb s.timer.lead 1) (store_if p e (eqb s.timer.lag 1) (elapsed 1 s))) s).board
      go true = begin_holds (eqb s.timer.lead 1) _ (store_holds (eqb s.timer.lag 1) (elapsed 1 s) h)
      go false = h

  pub advanced_holds : (n : ℕ) (s : Scan B) → P s.board → P (advanced p e n s).board
  unfolding advanced
  advanced_holds zero s h = h
  advanced_holds (suc n) s h = advanced_holds n (ticked p e s) (tick_holds s h)
