-- The next store of a scan: what the search tick by tick finds, and what the countdowns say.
use mathlib.Core.Bool.{Bool, true, false, cond, ◌&&◌, ◌||◌}
use mathlib.Core.Logic.{◌⊎◌, inl, inr, ⊎_elim}
use mathlib.Core.Path.{◌≡◌, refl, sym, ap, ap₂, subst, fun_ext, ◌∙◌}
use Prim.Native.Nat.{ℕ, zero, suc, ◌+◌, ◌-◌, ◌*◌, ◌≤◌, ◌<◌}
use native.Mathlib.Nat.{add-zero, zero-add, sub-zero, zero-mul, suc-mul}
use native.Mathlib.Numerals.{unary_clauses}
use native.Mathlib.Omega.{arith}
use lib.Dec.{eqb, ltb, leb}
use borrow.Author.Tests.{eq-eqb, ne_eqb}
use Rattle.std.proofs.lemmas.Bool.{cases_lt}
use Rattle.schedule.specs.Timer.{begun_timer}
use Rattle.schedule.specs.Scan.{Effects, Scan, scan, elapsed, store_if, begin_if, is_store_due, ticked, advanced, stores_in, first_store}
use Rattle.schedule.specs.declared.Plan.{Plan}
use Rattle.schedule.specs.declared.Timer.{Timer}
use Rattle.schedule.proofs.Jumps.{Within, jump, jump_stores, stores_add}

-- ---- of the numbers of stores made in every number of ticks

-- the first store comes in tick n
pub record First (stores : ℕ → ℕ) (n : ℕ) : Type 0 where
  pub some : 0 < n
  pub fewer : (t : ℕ) → t < n → stores t ≡ 0
  pub exact : stores n ≡ 1

-- no store comes in n ticks, or at all
abbrev pub NoneIn : (n : ℕ) (stores : ℕ → ℕ) → Type 0
NoneIn n stores = (t : ℕ) → t ≤ n → stores t ≡ 0

abbrev pub Never : (stores : ℕ → ℕ) → Type 0
Never stores = (t : ℕ) → stores t ≡ 0

-- n is the tick of the first store, or 0 and none comes
abbrev pub Coming : (stores : ℕ → ℕ) (n : ℕ) → Type 0
Coming stores n = First stores n ⊎ ((n ≡ 0) × Never stores)

-- the same of a search that ends after `most` ticks
pub record Found (stores : ℕ → ℕ) (most found : ℕ) : Type 0 where
  pub first : First stores found
  pub reached : found ≤ most

pub record Missing (stores : ℕ → ℕ) (most found : ℕ) : Type 0 where
  pub is : found ≡ 0
  pub none : NoneIn most stores

abbrev pub Searched : (stores : ℕ → ℕ) (most found : ℕ) → Type 0
Searched stores most found = Found stores most found ⊎ Missing stores most found

first_one : (stores : ℕ → ℕ) (n k : ℕ) → First stores n → First stores k → n ≡ k
first_one stores n k h g = grind arith

-- the search finds the store that comes, if it reaches that far
pub found_is : (stores : ℕ → ℕ) (most found n : ℕ) → Searched stores most found → Coming stores n → found ≡ cond (leb n most) n 0
found_is stores most found n (inl f) (inl h) = grind (arith, first_one stores found n f.first h, f.reached)
found_is stores most found n (inl f) (inr none) = absurd (omega (arith, f.first.exact, none.1 found))
found_is stores most found n (inr m) (inl h) = grind (arith, m.is, m.none n, h.exact)
found_is stores most found n (inr m) (inr none) = grind (arith, m.is, none.0)

-- the next event is a beginning
pub record Beginning (t : Timer) : Type 0 where
  pub running : t.running ≡ true
  pub some : 0 < t.lead
  pub before : (t.lag ≡ 0) ⊎ (t.lead < t.lag)

-- conversions begin so close together that each drops the one before
pub record Crowded (p : Plan) : Type 0 where
  pub some : 0 < p.step
  pub short : p.step < p.delay
  pub turn : p.turn ≡ p.step

-- two spans of ticks one after the other, 0 if either is none
abbrev pub joined : (n k : ℕ) → ℕ
joined n k = cond (eqb n 0 || eqb k 0) 0 (n + k)

module _ {B : Type 0} (p : Plan) (e : Effects B) where
  -- ---- the search

  no_ticks : (s : Scan B) → stores_in p e 0 s ≡ 0
  unfolding stores_in
  no_ticks s = refl

  one_more : (n : ℕ) (s : Scan B) → stores_in p e (suc n) s ≡ cond (is_store_due s) 1 0 + stores_in p e n (ticked p e s)
  unfolding stores_in
  one_more n s = refl

  -- the stores in all the ticks, of which some have passed before the scan
  abbrev all : (passed : ℕ) → Scan B → ℕ → ℕ
  all passed s t = stores_in p e (t - passed) s

  all_next : (passed : ℕ) (s : Scan B) → is_store_due s ≡ false → all (suc passed) (ticked p e s) ≡ all passed s
  all_next passed s free = fun_ext (λ t. ap (λ (n : ℕ). stores_in p e n (ticked p e s)) (omega arith) ∙ go (t - passed))
    where
      go : (n : ℕ) → stores_in p e (n - 1) (ticked p e s) ≡ stores_in p e n s
      go zero = no_ticks (ticked p e s) ∙ sym (no_ticks s)
      go (suc n) = simp unary_clauses (sym (one_more n s ∙ ap (λ (t : Bool). cond t 1 0 + stores_in p e n (ticked p e s)) free ∙ zero-add _))

  searched_from : (n passed : ℕ) (s : Scan B) → Searched (all passed s) (n + passed) (first_store p e n passed s)
  unfolding first_store
  searched_from zero passed s = inr (record { is = refl; none = λ t most. ap (λ (n : ℕ). stores_in p e n s) (omega arith) ∙ no_ticks s })
  searched_from (suc n) passed s = go (is_store_due s) refl _ (searched_from n (suc passed) (ticked p e s))
    where
      go :
          (due : Bool) → is_store_due s ≡ due → (found : ℕ) → Searched (all (suc passed) (ticked p e s)) (n + suc passed) found
          → Searched (all passed s) (suc n + passed) (cond due (suc passed) found)
      go true due found rest =
          inl
          (record {
            first =
                record {
                  some = omega arith;
                  fewer = λ t less. ap (λ (n : ℕ). stores_in p e n s) (omega arith) ∙ no_ticks s;
                  exact =
                      ap (λ (n : ℕ). stores_in p e n s) (omega arith)
                      ∙ one_more 0 s
                      ∙ ap₂ (λ (t : Bool) (n : ℕ). cond t 1 0 + n) due (no_ticks (ticked p e s));
                };
            reached = omega arith;
          })
      go false free found rest =
          subst (λ (most : ℕ). Searched (all passed s) most found) (omega arith)
          (subst (λ (stores : ℕ → ℕ). Searched stores (n + suc passed) found) (all_next passed s free) rest)

  -- the stores in so many ticks of a scan
  abbrev pub counted : Scan B → ℕ → ℕ
  counted s t = stores_in p e t s

  pub searched : (most : ℕ) (s : Scan B) → Searched (counted s) most (first_store p e most 0 s)
  searched most s =
      subst (λ (n : ℕ). Searched (counted s) n (first_store p e most 0 s)) (add-zero most)
      (subst (λ (stores : ℕ → ℕ). Searched stores (most + 0) (first_store p e most 0 s)) (fun_ext (λ t. ap (counted s) (sub-zero t)))
      (searched_from most 0 s))

  -- ---- a running scan

  module _ (s : Scan B) (running : s.timer.running ≡ true) where
    -- the store of the conversion in progress comes before a beginning
    store_first : 0 < s.timer.lag → Within s.timer.lag s.timer.lead → First (counted s) s.timer.lag
    store_first some before =
        record {
          some = some;
          fewer = fewer;
          exact =
              jump_stores p e s.timer.lag s running some before (inr (omega arith))
              ∙ ap (λ (t : Bool). cond t 1 0) (eq-eqb s.timer.lag s.timer.lag refl);
        }
      where
        shorter : (t : ℕ) → t < s.timer.lag → Within t s.timer.lead
        shorter t less = grind arith

        fewer : (t : ℕ) → t < s.timer.lag → stores_in p e t s ≡ 0
        fewer zero less = no_ticks s
        fewer (suc t) less =
            jump_stores p e (suc t) s running (omega arith) (shorter (suc t) less) (inr (omega arith))
            ∙ ap (λ (t : Bool). cond t 1 0) (ne_eqb s.timer.lag (suc t) (λ e. omega arith))

    -- nothing is in progress and nothing begins
    nothing_comes : s.timer.lead ≡ 0 → s.timer.lag ≡ 0 → Never (counted s)
    nothing_comes no-lead no-lag zero = no_ticks s
    nothing_comes no-lead no-lag (suc t) =
        jump_stores p e (suc t) s running (omega arith) (inl no-lead) (inl no-lag)
        ∙ ap (λ (t : Bool). cond t 1 0) (ne_eqb s.timer.lag (suc t) (λ e. omega arith))

    -- where the first store after the next beginning is known
    pub comes :
        (after : ℕ) → (Beginning s.timer → Coming (counted s) (joined s.timer.lead after))
        → Coming (counted s) (cond (ltb 0 s.timer.lag && (eqb s.timer.lead 0 || leb s.timer.lag s.timer.lead)) s.timer.lag (joined s.timer.lead after))
    comes after begins = go (ltb 0 s.timer.lag && (eqb s.timer.lead 0 || leb s.timer.lag s.timer.lead)) refl
      where
        go :
            (first : Bool) → (ltb 0 s.timer.lag && (eqb s.timer.lead 0 || leb s.timer.lag s.timer.lead)) ≡ first
            → Coming (counted s) (cond first s.timer.lag (joined s.timer.lead after))
        go true is = inl (store_first (grind arith) (grind arith))
        go false is =
            ⊎_elim
            (λ (some : 0 < s.timer.lead). begins (record { running = running; some = some; before = grind arith }))
            (λ (none : s.timer.lead ≤ 0). inr (grind arith, nothing_comes (omega arith) (grind arith)))
            (cases_lt 0 s.timer.lead)

  -- ---- a scan whose next event is a beginning

  module _ (s : Scan B) (h : Beginning s.timer) where
    waits : (t : ℕ) → t ≤ s.timer.lead → Within t s.timer.lag
    waits t most = grind (arith, h.before)

    unstored : (t : ℕ) → 0 < t → t ≤ s.timer.lead → eqb s.timer.lag t ≡ false
    unstored t positive most = grind (arith, h.before)

    quiet : NoneIn s.timer.lead (counted s)
    quiet zero most = no_ticks s
    quiet (suc t) most =
        jump_stores p e (suc t) s h.running (omega arith) (inr most) (waits (suc t) most)
        ∙ ap (λ (t : Bool). cond t 1 0) (unstored (suc t) (omega arith) most)

    abbrev next : Scan B
    next = scan (begun_timer p s.timer) (e.taken s.timer.index s.board)

    at_beginning : advanced p e s.timer.lead s ≡ next
    at_beginning =
        jump p e s.timer.lead s h.running h.some (inr (omega arith)) (waits s.timer.lead (omega arith))
        ∙ ap₂ (λ (beginning due : Bool). begin_if p e beginning (store_if p e due (elapsed s.timer.lead s)))
        (eq-eqb s.timer.lead s.timer.lead refl)
        (unstored s.timer.lead h.some (omega arith))
        ∙ ap (λ (t : Bool). cond t next (elapsed s.timer.lead s)) h.running

    stores_after : (t : ℕ) → stores_in p e (s.timer.lead + t) s ≡ stores_in p e t next
    stores_after t =
        sym (stores_add p e s.timer.lead t s)
        ∙ ap₂ ◌+◌ (quiet s.timer.lead (omega arith)) (ap (stores_in p e t) at_beginning)
        ∙ zero-add _

    -- the ticks up to the beginning, then those after it
    split : (t : ℕ) → (t ≤ s.timer.lead) ⊎ (s.timer.lead ≤ t) → stores_in p e (t - s.timer.lead) next ≡ 0 → stores_in p e t s ≡ 0
    split t (inl early) none = quiet t early
    split t (inr late) none = ap (λ (n : ℕ). stores_in p e n s) (omega arith) ∙ stores_after (t - s.timer.lead) ∙ none

    first_after : (n : ℕ) → First (counted next) n → First (counted s) (s.timer.lead + n)
    first_after n f =
        record {
          some = omega (arith, f.some);
          fewer = λ t less. split t (grind arith) (f.fewer (t - s.timer.lead) (omega (arith, f.some)));
          exact = stores_after n ∙ f.exact;
        }

    comes_after : (n : ℕ) → 0 < n → First (counted s) (s.timer.lead + n) → Coming (counted s) (joined s.timer.lead n)
    comes_after n some f = inl (subst (First (counted s)) (grind (arith, h.some)) f)

    -- the conversion that begins is stored before another begins
    pub spaced_comes : 0 < p.delay → Within p.delay p.step → Within p.delay p.turn → Coming (counted s) (joined s.timer.lead p.delay)
    spaced_comes some step turn = comes_after p.delay some (first_after p.delay (store_first next h.running some (spaced (leb p.last s.timer.index))))
      where
        spaced : (ends : Bool) → Within p.delay (cond (p.single && ends) 0 (cond ends p.turn p.step))
        spaced ends = grind arith

  -- ---- conversions that begin so close together that each drops the one before

  module _ (crowded : Crowded p) where
    begins_next : (s : Scan B) (h : Beginning s.timer) → (p.single && leb p.last s.timer.index) ≡ false → Beginning (next s h).timer
    begins_next s h goes = grind (arith, crowded.some, crowded.short, crowded.turn, h.running)

    -- a scan that goes on never stores any
    none_stored : p.single ≡ false → (n : ℕ) (s : Scan B) → Beginning s.timer → NoneIn n (counted s)
    none_stored many zero s h t few = quiet s h t (omega arith)
    none_stored many (suc n) s h t few =
        split s h t (grind arith)
        (none_stored many n (next s h) (begins_next s h (ap (λ (single : Bool). single && leb p.last s.timer.index) many)) (t - s.timer.lead)
        (omega (arith, h.some)))

    pub never_comes : p.single ≡ false → (s : Scan B) → Beginning s.timer → Coming (counted s) (joined s.timer.lead 0)
    never_comes many s h = inr (grind arith, λ t. none_stored many t s h t (omega arith))

    -- one that ends with its pass stores the last one
    last_stored :
        p.single ≡ true → (rest : ℕ) (s : Scan B) → Beginning s.timer → p.last - s.timer.index ≡ rest
        → First (counted s) (s.timer.lead + (p.delay + rest * p.step))
    last_stored single zero s h is =
        let over : (next s h).timer.lead ≡ 0 = grind arith in
        subst (First (counted s)) (omega (arith, zero-mul p.step))
        (first_after s h p.delay (store_first (next s h) h.running (omega (arith, crowded.short)) (inl over)))
    last_stored single (suc rest) s h is =
        let goes : (p.single && leb p.last s.timer.index) ≡ false = grind arith in
        let place : (next s h).timer.index ≡ s.timer.index + 1 = grind arith in
        let lead : (next s h).timer.lead ≡ p.step = grind (arith, crowded.turn) in
        subst (First (counted s)) (omega (arith, lead, suc-mul rest p.step))
        (first_after s h _ (last_stored single rest (next s h) (begins_next s h goes) (omega (arith, is, place))))

    pub last_comes :
        p.single ≡ true → (s : Scan B) → Beginning s.timer
        → Coming (counted s) (joined s.timer.lead (p.delay + (p.last - s.timer.index) * p.step))
    last_comes single s h =
        comes_after s h (p.delay + (p.last - s.timer.index) * p.step) (omega (arith, crowded.short))
        (last_stored single (p.last - s.timer.index) s h refl)
