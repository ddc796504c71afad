-- The digits of a part of the list; past the end there are none.
use Rattle.std.proofs.Common.{rules}
use mathlib.Core.List.{List}
use mathlib.Core.Path.{refl, ap, sym, ◌∙◌}
use Prim.Native.Nat.{ℕ, ◌+◌, ◌-◌, ◌*◌}
use native.Mathlib.Omega.{arith}
use lib.ListN.{get_or, length}
use Rattle.pmc330_model.specs.Words.{joined}
use Rattle.pmc330.proofs.WordLaws.{joined_part, joined_past}
use Rattle.pmc330.proofs.words.gain_word.Goals as goal

pub returns-in-None : goal.returns-in-None
returns-in-None c = sym (joined_past 4 (λ n. n) (8 * c.args.group) 8 c.args.gains.now refl (omega (arith, c.in-None.ensures.lookup)))

pub returns-in-Some : goal.returns-in-Some
returns-in-Some c =
    let first : ℕ = 8 * c.from-first.result in
    let part = c.in-Some.ensures.lookup.0 in
    c.joined.ensures (λ n. n) (λ n m byte is. search rules)
    ∙ ap (λ (l : List ℕ). joined 4 (λ (i : ℕ). get_or l i 0) (length l)) part.2
    ∙ joined_part 4 (λ n. n) first (first + 8 - first) 8 c.args.gains.now (ap length (sym part.2) ∙ omega (arith, part.3)) (omega arith)
    ∙ ap (λ (a : ℕ). joined 4 (λ (i : ℕ). get_or c.args.gains.now (8 * a + i) 0) 8) c.from-first.ensures
