-- The answers' bytes in their chunks of five, and the line that one more call brings.
use Rattle.std.proofs.Common.{ℕ, zero, suc, ◌+◌, ◌*◌, ◌≤◌, ◌<◌, ◌≡◌, List, [], ◌∷◌, ◌++◌, get_or, take, drop, refl, sym, ap, ◌∙◌, add-one, arith}
use Rattle.std.proofs.lemmas.List.{get_or-take, get_or-drop}
use Rattle.std.specs.Simd.{first_chunks}
use Rattle.lines.specs.Text.{line_of, number_in, word_in, lines_of}

chunk_byte :
    (count call place at : ℕ) (answers : List ℕ) → call < count → place < 5 → at ≡ 5 * call + place
    → get_or (get_or (first_chunks 5 count answers) call []) place 0 ≡ get_or answers at 0
chunk_byte zero call place at answers h k e = absurd (omega arith)
chunk_byte (suc n) zero place at answers h k e =
    get_or-take 5 answers place 0 k ∙ ap (λ (i : ℕ). get_or answers i 0) {x = place} {y = at} (omega arith)
chunk_byte (suc n) (suc call) place at answers h k e =
    chunk_byte n call place (5 * call + place) (drop 5 answers) (omega arith) k refl
    ∙ get_or-drop 5 answers (5 * call + place) 0
    ∙ ap (λ (i : ℕ). get_or answers i 0) {x = 5 + (5 * call + place)} {y = at} (omega arith)

-- the first of the chunks
pub first_of : (few count : ℕ) (answers : List ℕ) → few ≤ count → take few (first_chunks 5 count answers) ≡ first_chunks 5 few answers
first_of zero count answers h = refl
first_of (suc few) zero answers h = absurd (omega arith)
first_of (suc few) (suc count) answers h = ap (λ (l : List (List ℕ)). take 5 answers ∷ l) (first_of few count (drop 5 answers) (omega arith))

-- the answers of so many calls
module _ (answers : List ℕ) (chunks : List (List ℕ)) (calls : ℕ) (is : chunks ≡ first_chunks 5 calls answers) where
  byte : (call place at : ℕ) → call < calls → place < 5 → at ≡ 5 * call + place → get_or (get_or chunks call []) place 0 ≡ get_or answers at 0
  byte call place at h k e = rw is (chunk_byte calls call place at answers h k e)

  pub one_more :
      (call : ℕ) (line : List ℕ) → call < calls → line ≡ line_of (call + 1) (number_in (get_or chunks call []) 0) (word_in (get_or chunks call []) 1)
      → lines_of answers call ++ line ≡ lines_of answers (call + 1)
  unfolding lines_of
  one_more call line h e =
      let at = 5 * call + 1 in
      rw (e, byte call 1 at h (omega arith) refl, byte call 2 (at + 1) h (omega arith) (omega arith), byte call 3 (at + 2) h (omega arith) (omega arith), byte call 4 (at + 3) h (omega arith) (omega arith), byte call 0 (5 * call) h (omega arith) (omega arith))
      (ap (lines_of answers) (sym (add-one call)))
