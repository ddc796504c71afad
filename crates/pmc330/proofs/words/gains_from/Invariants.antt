-- Each turn stores one more gain.
use Prim.Native.Nat.{◌+◌, ◌-◌}
use Rattle.pmc330.proofs.WordLaws.{Storing}
use Rattle.pmc330.proofs.words.gains_from.Given as goal

abbrev pub invariant-loop-gain : goal.invariant-loop-gain
invariant-loop-gain l = Storing l.first (l.first + 8 - l.first) l.word l.fn.gains l.gain-items l.rest l.gain-index
