-- A conversion in progress is stored, and the next one begins: what happens up to the next beginning, all at once.
use mathlib.Core.Bool.{Bool, true, false, cond, ◌&&◌}
use mathlib.Core.Logic.{inl, inr}
use mathlib.Core.Path.{◌≡◌, refl, sym, ap, ap₂, ◌∙◌}
use Prim.Native.Nat.{ℕ, ◌+◌, ◌-◌, ◌≤◌, ◌<◌}
use native.Mathlib.Omega.{arith}
use lib.Dec.{eqb, leb}
use borrow.Author.Tests.{leb-true}
use Rattle.schedule.specs.Timer.{elapsed_by, idle_timer}
use Rattle.schedule.specs.Scan.{Effects, Scan, scan, elapsed, store_if, begin_if, jumped, advanced, stores_in, converted, converts}
use Rattle.schedule.specs.declared.Plan.{Plan}
use Rattle.schedule.specs.declared.Timer.{Timer}
use Rattle.schedule.proofs.Jumps.{jump, jump_stores, advanced_add, stores_add}
use Rattle.schedule.proofs.Runs.{Partway, part_fits, part_on}

-- what the code's test says
pub record Converts (p : Plan) (left : ℕ) (t : Timer) : Type 0 where
  pub some : 0 < t.lag
  pub first : t.lag ≤ t.lead
  pub room : t.lead ≤ left
  pub goes_on : (p.single && t.ends) ≡ false

pub tested : (p : Plan) (left : ℕ) (t : Timer) → converts p left t ≡ true → Converts p left t
tested p left t e = grind arith

module _ {B : Type 0} (p : Plan) (e : Effects B) (s : Scan B) (left : ℕ) (running : s.timer.running ≡ true) (h : Converts p left s.timer) where
  after_store : (n : ℕ) → Scan B
  after_store n = scan (elapsed_by n s.timer) (e.stored s.timer.ends s.board)

  jumped_as :
      (n : ℕ) (x : Scan B) (due begins : Bool) → eqb x.timer.lag n ≡ due → eqb x.timer.lead n ≡ begins
      → jumped p e n x ≡ begin_if p e begins (store_if p e due (elapsed n x))
  jumped_as n x due begins d b = ap₂ (λ (v w : Bool). begin_if p e v (store_if p e w (elapsed n x))) b d

  stored_after : (n : ℕ) → store_if p e true (elapsed n s) ≡ after_store n
  unfolding after_store
  stored_after n = ap (λ (idle : Bool). scan (cond idle idle_timer (elapsed_by n s.timer)) (e.stored s.timer.ends s.board)) h.goes_on

  at_once : s.timer.lag ≡ s.timer.lead → jumped p e s.timer.lead s ≡ converted p e s
  unfolding after_store
  at_once same =
      jumped_as s.timer.lead s true true (grind (arith, same)) (grind arith)
      ∙ ap (begin_if p e true) (stored_after s.timer.lead)
      ∙ ap (λ (t : Bool). cond t (converted p e s) (after_store s.timer.lead)) running

  stores_first : s.timer.lag < s.timer.lead → jumped p e s.timer.lag s ≡ after_store s.timer.lag
  stores_first less = jumped_as s.timer.lag s true false (grind arith) (grind (arith, less)) ∙ stored_after s.timer.lag

  begins_then : s.timer.lag < s.timer.lead → jumped p e (s.timer.lead - s.timer.lag) (after_store s.timer.lag) ≡ converted p e s
  unfolding after_store
  begins_then less =
      jumped_as (s.timer.lead - s.timer.lag) (after_store s.timer.lag) false true (grind (arith, less)) (grind arith)
      ∙ ap (λ (t : Bool). cond t (converted p e s) (elapsed (s.timer.lead - s.timer.lag) (after_store s.timer.lag))) running

  pub record Conversion : Type 0 where
    pub scan : advanced p e s.timer.lead s ≡ converted p e s
    pub stores : stores_in p e s.timer.lead s ≡ 1

  pub conversion : Conversion
  unfolding after_store
  conversion = go (leb s.timer.lead s.timer.lag) refl
    where
      go : (t : Bool) → leb s.timer.lead s.timer.lag ≡ t → Conversion
      go true b =
          let same : s.timer.lag ≡ s.timer.lead = omega (arith, h.first, leb-true s.timer.lead s.timer.lag b) in
          record {
            scan = jump p e s.timer.lead s running (omega (arith, h.some, h.first)) (inr (omega arith)) (inr (omega (arith, same))) ∙ at_once same;
            stores = jump_stores p e s.timer.lead s running (omega (arith, h.some, h.first)) (inr (omega arith)) (inr (omega (arith, same))) ∙ grind (arith, same);
          }
      go false b =
          let less : s.timer.lag < s.timer.lead = grind (arith, b) in
          let parts : s.timer.lag + (s.timer.lead - s.timer.lag) ≡ s.timer.lead = omega (arith, less) in
          let n : ℕ = s.timer.lead - s.timer.lag in
          let first = jump p e s.timer.lag s running h.some (inr (omega (arith, less))) (inr (omega arith)) ∙ stores_first less in
          let count = jump_stores p e s.timer.lag s running h.some (inr (omega (arith, less))) (inr (omega arith)) in
          let later = jump p e n (after_store s.timer.lag) running (omega (arith, less)) (inr (omega arith)) (inl (omega arith)) ∙ begins_then less in
          let one : stores_in p e s.timer.lag s ≡ 1 = count ∙ grind arith in
          let none = jump_stores p e n (after_store s.timer.lag) running (omega (arith, less)) (inr (omega arith)) (inl (omega arith)) in
          let nothing : stores_in p e n (advanced p e s.timer.lag s) ≡ 0 = ap (stores_in p e n) first ∙ none ∙ grind (arith, less) in
          record {
            scan = ap (λ (k : ℕ). advanced p e k s) (sym parts) ∙ sym (advanced_add p e s.timer.lag n s) ∙ ap (advanced p e n) first ∙ later;
            stores = ap (λ (k : ℕ). stores_in p e k s) (sym parts) ∙ sym (stores_add p e s.timer.lag n s) ∙ ap₂ ◌+◌ one nothing;
          }

-- a turn of a run that makes a conversion
module _ {B : Type 0} (p : Plan) (e : Effects B) (ticks left made : ℕ) (start now : Scan B) (partway : Partway p e ticks left made start now)
    (running : now.timer.running ≡ true) (h : Converts p left now.timer) where
  pub conversion_fits : made + 1 ≤ ticks
  conversion_fits =
      let k = conversion p e now left running h in
      part_fits p e ticks left made now.timer.lead 1 start now (converted p e now) partway h.room (sym k.scan) (sym k.stores)

  pub conversion_on : (next : Scan B) → next ≡ converted p e now → Partway p e ticks (left - now.timer.lead) (made + 1) start next
  conversion_on next is =
      let k = conversion p e now left running h in
      part_on p e ticks left made now.timer.lead 1 start now next partway h.room (is ∙ sym k.scan) (sym k.stores)
