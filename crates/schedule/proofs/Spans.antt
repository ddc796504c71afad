-- A run span after span: a span that leaves the scan as it was may be repeated without being run.
use mathlib.Core.Logic.{◌⊎◌, inl, inr}
use mathlib.Core.Path.{◌≡◌, refl, sym, ap, ap₂, subst, ◌∙◌}
use Prim.Native.Nat.{ℕ, zero, suc, ◌+◌, ◌-◌, ◌*◌, ◌≤◌}
use native.Mathlib.Nat.{zero-mul, suc-mul}
use native.Mathlib.Omega.{arith}
use Rattle.schedule.specs.Scan.{Effects, Scan, advanced, stores_in}
use Rattle.schedule.specs.declared.Plan.{Plan}
use Rattle.schedule.proofs.Jumps.{advanced_add, stores_add}
use Rattle.schedule.proofs.Runs.{Partway, part_fits, part_on}

module _ {B : Type 0} (p : Plan) (e : Effects B) where
  module _ (n : ℕ) (s : Scan B) (back : advanced p e n s ≡ s) where
    pub repeated : (j : ℕ) → advanced p e (j * n) s ≡ s
    unfolding advanced
    repeated zero = ap (λ (k : ℕ). advanced p e k s) (zero-mul n)
    repeated (suc j) =
        ap (λ (k : ℕ). advanced p e k s) (suc-mul j n)
        ∙ sym (advanced_add p e (j * n) n s)
        ∙ ap (advanced p e n) (repeated j)
        ∙ back

    pub stores_repeated : (j : ℕ) → stores_in p e (j * n) s ≡ j * stores_in p e n s
    unfolding stores_in
    stores_repeated zero = ap (λ (k : ℕ). stores_in p e k s) (zero-mul n) ∙ sym (zero-mul (stores_in p e n s))
    stores_repeated (suc j) =
        ap (λ (k : ℕ). stores_in p e k s) (suc-mul j n)
        ∙ sym (stores_add p e (j * n) n s)
        ∙ ap₂ ◌+◌ (stores_repeated j) (ap (stores_in p e n) (repeated j))
        ∙ sym (suc-mul j (stores_in p e n s))

  -- one turn of a loop over spans: a span is run, and repeated `more` times where it came back
  module _ (ticks left made span : ℕ) (start now : Scan B) (partway : Partway p e ticks left made start now) (room : span ≤ left)
      (stores more : ℕ) (next : Scan B) (is : next ≡ advanced p e span now) (made-is : stores ≡ stores_in p e span now)
      (skip : more * span ≤ left - span) (back : (more ≡ 0) ⊎ (next ≡ now)) where
    all : ℕ
    all = span + more * span

    more_board : (more ≡ 0) ⊎ (next ≡ now) → next ≡ advanced p e (more * span) next
    unfolding advanced
    more_board (inl none) = rw (none, zero-mul) refl
    more_board (inr same) = sym (repeated span next (ap (advanced p e span) same ∙ sym is) more)

    more_stores : (more ≡ 0) ⊎ (next ≡ now) → stores_in p e (more * span) next ≡ more * stores
    unfolding stores_in
    more_stores (inl none) = rw (none, zero-mul, zero-mul) refl
    more_stores (inr same) =
        stores_repeated span next (ap (advanced p e span) same ∙ sym is) more
        ∙ ap (λ (k : ℕ). more * k) (ap (stores_in p e span) same ∙ sym made-is)

    ends : next ≡ advanced p e (span + more * span) now
    ends = more_board back ∙ ap (advanced p e (more * span)) is ∙ advanced_add p e span (more * span) now

    counts : stores + more * stores ≡ stores_in p e (span + more * span) now
    counts =
        ap (λ (k : ℕ). stores + k) (sym (more_stores back) ∙ ap (stores_in p e (more * span)) is)
        ∙ ap (λ (k : ℕ). k + stores_in p e (more * span) (advanced p e span now)) made-is
        ∙ stores_add p e span (more * span) now

    within : span + more * span ≤ left
    within = omega (arith, skip)

    pub span_fits : made + (stores + more * stores) ≤ ticks
    span_fits = part_fits p e ticks left made (span + more * span) (stores + more * stores) start now next partway within ends counts

    pub span_on : Partway p e ticks (left - span - more * span) (made + (stores + more * stores)) start next
    span_on =
        let rest : left - (span + more * span) ≡ left - span - more * span = omega arith in
        subst (λ (k : ℕ). Partway p e ticks k (made + (stores + more * stores)) start next) rest
        (part_on p e ticks left made (span + more * span) (stores + more * stores) start now next partway within ends counts)
