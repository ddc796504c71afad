-- So many lines are written.
use Rattle.std.specs.Fmt.{HasWritten, IsPlainFormatter}
use Rattle.lines.specs.Text.{lines_of}
use Rattle.lines.proofs.CallLinesDisplay.fmt.Given as goal

abbrev pub invariant-loop-call : goal.invariant-loop-call
invariant-loop-call g l =
    IsPlainFormatter l.initial.f → HasWritten g.W.Write.write_str_gives l.initial.f (lines_of l.self.answers.now l.call) l.f
