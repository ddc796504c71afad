-- Each turn puts one more sum in front of what the output held, from the first that the full window gave.
use Rattle.std.proofs.Common.{◌+◌}
use Rattle.window.proofs.WindowLaws.{Summing}
use Rattle.window.proofs.slide.Given as goal

abbrev pub invariant-loop-oldest : goal.invariant-loop-oldest
invariant-loop-oldest l = Summing l.full l.codes l.initial.sums l.sums l.sum (l.full + l.oldest)
