-- The next store of a board: what the search tick by tick finds, and that it is what the countdowns say.
use mathlib.Core.Bool.{Bool, true, false, cond, ◌&&◌}
use mathlib.Core.List.{List, [], ◌∷◌}
use mathlib.Core.Logic.{inl, inr, ⊎_elim}
use mathlib.Core.Path.{◌≡◌, refl, sym, ap, ap₂, subst, ◌∙◌}
use Prim.Native.Nat.{ℕ, ◌+◌, ◌-◌, ◌*◌, ◌≤◌, ◌<◌}
use native.Mathlib.Nat.{mul-le-mul}
use native.Mathlib.Omega.{arith}
use borrow.Author.Tests.{lt-leb}
use Rattle.std.proofs.lemmas.Bool.{cases_lt}
use Rattle.analog.specs.Answers.{first_no, asked, answered, value_of}
use Rattle.schedule.specs.Scan.{first_store}
use Rattle.schedule.specs.declared.Timer.{Timer}
use Rattle.schedule.proofs.Jumps.{Within, idle_stores}
use Rattle.schedule.proofs.NextStores.{Never, Coming, Searched, found_is, Beginning, Crowded, joined, counted, searched, comes, spaced_comes, never_comes, last_comes}
use Rattle.pmc330_model.specs.Schedule.{pass_length, interval, is_single, is_timed}
use Rattle.pmc330_model.specs.Plan.{plan_of}
use Rattle.pmc330_model.specs.Board.{board_effects, scan_of, advanced, stores_in, next_store, board_call, advance_call, board_after}
use Rattle.pmc330_model.specs.Questions.{call_questions}
use Rattle.pmc330_model.specs.Sentences.{NextStore, EveryNextStore, EveryLastStore, value_of_advances}
use Rattle.pmc330_model.specs.NextStore.{is_crowded, store_after_beginning, ticks_to_store, within_advance, ticks_to_next_store}
use Rattle.pmc330_model.specs.declared.Registers.{Registers}
use Rattle.pmc330_model.specs.declared.Board.{Board}
use Rattle.pmc330_model.proofs.Sentences.{accepted_board, accepted_answer, accepted_value}
use Rattle.pmc330_model.proofs.Countdowns.{Fitting, Bounded, list_bounded}
use Rattle.pmc330_model.proofs.Jumps.{stores_add}
use Rattle.std.specs.Prelude.{Ok}

-- the stores that so many ticks of a board make
abbrev made : Board → ℕ → ℕ
made b n = stores_in n b

-- the tick of the next store; 0 if none comes, as on a board that is idle or not timed
abbrev tick_of : Board → ℕ
tick_of b = cond (b.cycle.timer.running && is_timed b.registers) (ticks_to_store b.registers b.cycle.timer) 0

-- ---- the beginning after which the store comes

-- the next beginning leaves time for the store, or comes too early for it
spaced : (r : Registers) → is_crowded r ≡ false → Within 64 (plan_of r).step × Within 64 (plan_of r).turn
spaced r free = (grind arith, grind arith)

crowding : (r : Registers) → is_crowded r ≡ true → Crowded (plan_of r)
crowding r crowded = record { some = grind arith; short = grind arith; turn = grind arith }

module _ (b : Board) where
  abbrev r : Registers
  r = b.registers

  abbrev t : Timer
  t = b.cycle.timer

  abbrev scan_stores : ℕ → ℕ
  scan_stores = counted (plan_of r) board_effects (scan_of b)

  begins : Beginning t → Coming scan_stores (joined t.lead (store_after_beginning r t.index))
  begins h = go (is_crowded r) (is_single r) refl refl
    where
      go :
          (crowded single : Bool) → is_crowded r ≡ crowded → is_single r ≡ single
          → Coming scan_stores (joined t.lead (cond crowded (cond single (64 + (pass_length r - (t.index + 1)) * interval r) 0) 64))
      go true true c s =
          subst (λ n. Coming scan_stores (joined t.lead n)) (grind arith)
          (last_comes (plan_of r) board_effects (crowding r c) s (scan_of b) h)
      go true false c s = never_comes (plan_of r) board_effects (crowding r c) s (scan_of b) h
      go false single c s = spaced_comes (plan_of r) board_effects (scan_of b) h (omega arith) (spaced r c).0 (spaced r c).1

  coming : Coming (made b) (tick_of b)
  unfolding stores_in
  coming = go t.running (is_timed r) refl
    where
      go :
          (running timed : Bool) → t.running ≡ running
          → Coming (λ n. cond timed (scan_stores n) 0) (cond (running && timed) (ticks_to_store r t) 0)
      go true true runs = comes (plan_of r) board_effects (scan_of b) runs (store_after_beginning r t.index) begins
      go false true stopped = inr (refl, λ n. idle_stores (plan_of r) board_effects n (scan_of b) stopped)
      go true false runs = inr (refl, λ n. refl)
      go false false stopped = inr (refl, λ n. refl)

  found : Searched (made b) 16_777_216 (next_store b)
  unfolding stores_in
  found = go (is_timed r)
    where
      go :
          (timed : Bool)
          → Searched (λ n. cond timed (scan_stores n) 0) 16_777_216
          (cond timed (first_store (plan_of r) board_effects 16_777_216 0 (scan_of b)) 0)
      go true = searched (plan_of r) board_effects 16_777_216 (scan_of b)
      go false = inr (record { is = refl; none = λ n most. refl })

  next_within : next_store b ≡ within_advance (tick_of b)
  next_within = found_is (made b) 16_777_216 (next_store b) (tick_of b) found coming

  pub next_is : next_store b ≡ ticks_to_next_store r t
  next_is = next_within ∙ go (t.running && is_timed r)
    where
      go : (on : Bool) → within_advance (cond on (ticks_to_store r t) 0) ≡ cond on (within_advance (ticks_to_store r t)) 0
      go true = refl
      go false = refl

-- ---- the theorems

-- an advance of too many ticks is refused
module _ (b : Board) (n : ℕ) (more : 16_777_216 < n) where
  refused_value : value_of (advance_call b n).answer ≡ 0
  unfolding board_call call_questions first_no asked answered
  refused_value = rw (lt-leb n 16_777_216 more)

  refused_board : (advance_call b n).board ≡ b
  unfolding board_call call_questions first_no
  refused_board = rw (lt-leb n 16_777_216 more)

pub next_stores : EveryNextStore
next_stores b = go (found b)
  where
    go : Searched (made b) 16_777_216 (next_store b) → NextStore b (next_store b)
    go (inl f) =
        record {
          fewer = λ ticks less. accepted_answer b ticks (omega (arith, f.reached)) ∙ ap Ok (f.first.fewer ticks less);
          exact = λ some. accepted_answer b (next_store b) f.reached ∙ ap Ok f.first.exact;
          none = λ zero_is. absurd (omega (arith, f.first.some));
        }
    go (inr m) =
        record {
          fewer = λ ticks less. absurd (omega (arith, m.is));
          exact = λ some. absurd (omega (arith, m.is));
          none = λ zero_is ticks.
              ⊎_elim
              (λ (more : 16_777_216 < ticks). refused_value b ticks more)
              (λ (most : ticks ≤ 16_777_216). accepted_value b ticks most ∙ m.none ticks most)
              (cases_lt 16_777_216 ticks);
        }

-- on a board that a list of calls leads to, one advance reaches the next store
after_most : (r : Registers) (index : ℕ) → Fitting r → store_after_beginning r index ≤ 16_129
after_most r index fit = go (is_crowded r) (is_single r) refl
  where
    go :
        (crowded single : Bool) → is_crowded r ≡ crowded
        → cond crowded (cond single (64 + (pass_length r - (index + 1)) * interval r) 0) 64 ≤ 16_129
    go true true crowded =
        let rest : pass_length r - (index + 1) ≤ 255 = omega (arith, fit.end) in
        let short : interval r ≤ 63 = grind arith in
        omega (arith, mul-le-mul rest short)
    go true false crowded = omega arith
    go false single free = omega arith

tick_most : (b : Board) → Bounded b → tick_of b ≤ 16_777_216
tick_most b h = go (b.cycle.timer.running && is_timed b.registers)
  where
    go : (on : Bool) → cond on (ticks_to_store b.registers b.cycle.timer) 0 ≤ 16_777_216
    go true = grind (arith, h.timer.lead, h.timer.lag, after_most b.registers b.cycle.timer.index h.registers)
    go false = omega arith

no_more : (b : Board) → Bounded b → next_store b ≡ 0 → Never (made b)
no_more b h none = go (tick_of b) (tick_most b h) (sym (next_within b) ∙ none) (coming b)
  where
    go : (n : ℕ) → n ≤ 16_777_216 → within_advance n ≡ 0 → Coming (made b) n → Never (made b)
    go n most is (inl first) = absurd (grind (arith, first.some))
    go n most is (inr never) = never.1

never_later : (n : ℕ) (b : Board) → Never (made b) → Never (made (advanced n b))
never_later n b never k = omega (arith, stores_add n k b, never n, never (n + k))

never_stored : (ns : List ℕ) (b : Board) → Never (made b) → value_of_advances b ns ≡ 0
unfolding value_of_advances
never_stored [] b never = refl
never_stored (n ∷ ns) b never =
    let rest = never_stored ns (advance_call b n).board in
    ⊎_elim
    (λ (more : 16_777_216 < n). ap₂ ◌+◌ (refused_value b n more) (rest (subst (λ x. Never (made x)) (sym (refused_board b n more)) never)))
    (λ (most : n ≤ 16_777_216).
    ap₂ ◌+◌ (accepted_value b n most ∙ never n) (rest (subst (λ x. Never (made x)) (sym (accepted_board b n most)) (never_later n b never))))
    (cases_lt 16_777_216 n)

pub last_stores : EveryLastStore
last_stores range valid calls none ns =
    never_stored ns (board_after range calls) (no_more (board_after range calls) (list_bounded range calls) none)
