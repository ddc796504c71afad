-- The number's bytes stand first of four, and the others are 0.
use mathlib.Core.List.{List, [], ◌∷◌, ◌++◌}
use mathlib.Core.Path.{◌≡◌, sym, ap, ◌∙◌}
use Prim.Native.Nat.{ℕ, ◌≤◌}
use native.Mathlib.Omega.{arith}
use lib.ListN.{length, take, drop, length-drop}
use lib.Seq.{length-take-le}
use Rattle.std.specs.Int.{w32, from_le_bytes}
use Rattle.trace.specs.Grammar.{low_first}
use Rattle.trace.proofs.fields.number.Goals as goal

abbrev in_four : (part : List ℕ) (size : ℕ) → List ℕ
in_four part size = part ++ drop size (0 ∷ 0 ∷ 0 ∷ 0 ∷ [])

filled : (part : List ℕ) → length part ≤ 4 → from_le_bytes w32 (in_four part (length part)) ≡ low_first part
unfolding low_first
filled [] short = omega arith
filled (a ∷ []) short = omega arith
filled (a ∷ b ∷ []) short = omega arith
filled (a ∷ b ∷ d ∷ []) short = omega arith
filled (a ∷ b ∷ d ∷ e ∷ []) short = omega arith
filled (a ∷ b ∷ d ∷ e ∷ f ∷ rest) short = absurd (omega arith)

pub returns : goal.returns
returns g c =
    let part = take g.row.N (drop c.args.at c.args.bytes.now) in
    let copied : c.copy_from_slice.new.self ≡ part = c.copy_from_slice.ensures.after ∙ ap (λ (n : ℕ). take n (drop c.args.at c.args.bytes.now)) (omega arith) in
    let size : length part ≡ g.row.N = length-take-le g.row.N (drop c.args.at c.args.bytes.now) (omega (arith, c.requires.inside, length-drop c.args.at c.args.bytes.now)) in
    c.from_le_bytes.ensures
    ∙ ap (λ (l : List ℕ). from_le_bytes w32 (in_four l g.row.N)) copied
    ∙ ap (λ (n : ℕ). from_le_bytes w32 (in_four part n)) (sym size)
    ∙ filled part (omega (arith, size, c.requires.short))
