-- The digits of a part of the list; past the end there are none.
use borrow.Author.Tests.{lt-leb}
use Rattle.std.proofs.Common.{rules}
use mathlib.Core.List.{List}
use mathlib.Core.Path.{ap, sym, ◌∙◌}
use Prim.Native.Nat.{ℕ, ◌+◌, ◌-◌, ◌*◌}
use native.Mathlib.Omega.{arith}
use lib.Dec.{leb}
use lib.ListN.{get_or, length}
use Rattle.pmc330_model.specs.Words.{joined, to_bit}
use Rattle.pmc330.proofs.WordLaws.{joined_part, joined_past}
use Rattle.pmc330.proofs.words.flag_word.Goals as goal

pub returns-in-None : goal.returns-in-None
returns-in-None c = sym (joined_past 2 (λ n. to_bit (leb c.args.least n)) (16 * c.args.half) 16 c.args.unread.now (rw (lt-leb _ _ c.requires)) (omega (arith, c.in-None.ensures.lookup)))

pub returns-in-Some : goal.returns-in-Some
returns-in-Some c =
    let first : ℕ = 16 * c.from-first.result in
    let part = c.in-Some.ensures.lookup.0 in
    c.joined.ensures (λ n. to_bit (leb c.args.least n)) (λ n m byte is. search rules)
    ∙ ap (λ (l : List ℕ). joined 2 (λ (i : ℕ). to_bit (leb c.args.least (get_or l i 0))) (length l)) part.2
    ∙ joined_part 2 (λ n. to_bit (leb c.args.least n)) first (first + 16 - first) 16 c.args.unread.now (ap length (sym part.2) ∙ omega (arith, part.3)) (omega arith)
    ∙ ap (λ (a : ℕ). joined 2 (λ (i : ℕ). to_bit (leb c.args.least (get_or c.args.unread.now (16 * a + i) 0))) 16) c.from-first.ensures
