-- So many lines are put.
use Rattle.std.proofs.Common.{◌*◌, ◌≤◌}
use Rattle.lines.specs.Text.{lines_of, Begins}
use Rattle.lines.proofs.CallLines.put.Given as goal

abbrev pub invariant-loop-call : goal.invariant-loop-call
invariant-loop-call l = record {
  fits : l.at ≤ 32 * l.call;
  text : Begins (lines_of l.self.answers.now l.call) l.initial.out l.out l.at;
}
