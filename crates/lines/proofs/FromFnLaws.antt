-- An array that is made element by element, where each turn gives the element and keeps what the closure holds.
use Rattle.std.proofs.Common.{ℕ, zero, suc, ◌+◌, ◌≤◌, ◌<◌, ◌≡◌, List, get_or, ◌∙◌, ⊎_elim, arith}
use Rattle.std.proofs.lemmas.Bool.{cases_eq}
use Rattle.std.specs.Array.{IsFromFnResultFrom}
use denote.Param.Members.{Mut, Called}

module _
    {F : Type 0} (g : Mut F (ℕ × Unit {0}) ℕ) (Keeps : F → Type 0) (f : ℕ → ℕ) (size : ℕ)
    (turn : (p q : F) (i x : ℕ) → i < size → Keeps p → Called g p (i, tt) x q → Keeps q × (x ≡ f i))
  where
    pub made : (left i : ℕ) (p : F) (xs : List ℕ) → i + left ≤ size → Keeps p → IsFromFnResultFrom g p xs i left → (k : ℕ) → i ≤ k → k < i + left → get_or xs k 0 ≡ f k
    made zero i p xs fits kept h k low high = absurd (omega arith)
    made (suc left) i p xs fits kept h k low high =
        let now = turn p h.0 i h.1 (omega arith) kept h.3 in
        ⊎_elim (λ same. rw same (h.2.1 0 ∙ now.1)) (λ other. made left (i + 1) h.0 xs (omega arith) now.0 h.4 k (omega arith) (omega arith)) (cases_eq k i)
