-- Each turn joins one more digit.
use Prim.Native.Nat.{ℕ, ◌<◌}
use mathlib.Core.Path.{◌≡◌}
use lib.ListN.{get_or}
use Rattle.pmc330_model.specs.Words.{joined}
use Rattle.pmc330.proofs.WordLaws.{Weighed}
use Rattle.pmc330.proofs.words.joined.Given as goal

abbrev pub invariant-loop-byte : goal.invariant-loop-byte
invariant-loop-byte g l = record {
  weighed : Weighed l.base l.word l.weight l.byte-index;
  joins : (f : ℕ → ℕ) → ((n m : ℕ) → n < 256 → goal.F-post g l.digit n m → m ≡ f n) → l.word ≡ joined l.base (λ i. f (get_or l.bytes i 0)) l.byte-index;
}
