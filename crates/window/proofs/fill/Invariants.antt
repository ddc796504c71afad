-- Each turn puts one more sum in front of what the output held.
use Rattle.window.proofs.WindowLaws.{Summing}
use Rattle.window.proofs.fill.Given as goal

abbrev pub invariant-loop-at : goal.invariant-loop-at
invariant-loop-at l = Summing l.full l.codes l.initial.sums l.sums l.sum l.at
