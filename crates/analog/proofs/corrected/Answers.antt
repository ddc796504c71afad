-- The questions are asked in the definition's order.
use borrow.Author.Tests.{le-ltb, lt-ltb}
use native.Mathlib.Omega.{arith}
use mathlib.Core.Path.{ap, sym, ◌∙◌}
use Rattle.analog.specs.Answers.{asked, answered}
use Rattle.analog.specs.Correction.{corrected_answer}
use Rattle.std.specs.Prelude.{Ok}
use Rattle.analog.proofs.corrected.Goals as goal

pub returns-then-not-pair_usable : goal.returns-then-not-pair_usable
unfolding corrected_answer answered asked
returns-then-not-pair_usable c = rw (sym c.pair_usable.ensures ∙ c.if-not-pair_usable.true)

pub returns-then-not-sums_possible : goal.returns-then-not-sums_possible
unfolding corrected_answer answered asked
returns-then-not-sums_possible c =
    rw (
      sym c.pair_usable.ensures ∙ c.if-not-pair_usable.false,
      sym c.sums_possible.ensures ∙ c.if-not-sums_possible.true,
    )

pub returns-then-high_sum-low_sum : goal.returns-then-high_sum-low_sum
unfolding corrected_answer answered asked
returns-then-high_sum-low_sum c =
    let args = c.args in
    rw (
      sym c.pair_usable.ensures ∙ c.if-not-pair_usable.false,
      sym c.sums_possible.ensures ∙ c.if-not-sums_possible.false,
      le-ltb args.low_sum args.high_sum (omega arith),
    )

pub returns : goal.returns
unfolding corrected_answer answered asked
returns c =
    rw (
      sym c.pair_usable.ensures ∙ c.if-not-pair_usable.false,
      sym c.sums_possible.ensures ∙ c.if-not-sums_possible.false,
      lt-ltb _ _ c.if-high_sum-low_sum.false,
    )
    (ap Ok c.corrected_count.ensures)
