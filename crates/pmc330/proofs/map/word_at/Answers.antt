-- The table's rule, and the rule beyond the table.
use borrow.Author.Tests.{le-ltb}
use Prim.Native.Nat.{ℕ, ◌≤◌, ◌<◌}
use native.Mathlib.Omega.{arith}
use mathlib.Core.Bool.{false}
use mathlib.Core.Path.{◌≡◌, refl, ◌∙◌}
use lib.Dec.{ltb}
use lib.ListN.{get_or}
use Rattle.pmc330_model.specs.Map.{word_at}
use Rattle.pmc330_model.proofs.Cases.{same_below}
use Rattle.pmc330.specs.Classes.{register_in}
use Rattle.pmc330.specs.declared.map.Class.{Class}
use Rattle.pmc330.specs.declared.map.TheConstants.{WORDS}
use Rattle.pmc330.proofs.map.word_at.Goals as goal

-- antt computes both lists: the table's entries, each at its place, are the words of the map
table_right : (word : ℕ) → word < 64 → register_in (get_or WORDS word Class.Unmapped) word ≡ word_at word
unfolding word_at
table_right = same_below (λ k. register_in (get_or WORDS k Class.Unmapped) k) word_at 64 refl

pub returns-then-word-lt64 : goal.returns-then-word-lt64
returns-then-word-lt64 c = c.register.ensures ∙ table_right c.args.word c.if-word-lt64.true

pub returns : goal.returns
unfolding word_at
returns c = rw (far 0x10 (omega arith), far 0x14 (omega arith), far 0x20 (omega arith), far 0x40 (omega arith))
  where
    far : (k : ℕ) → k ≤ 64 → ltb c.args.word k ≡ false
    far k most = le-ltb c.args.word k (omega arith)
