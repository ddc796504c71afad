-- Each turn writes the line of one more call.
use Rattle.std.proofs.Common.{rules, ◌≡◌}
use Rattle.std.specs.Simd.{first_chunks}
use Rattle.std.proofs.Output.{has_written_append, has_written_of_eq}
use Rattle.lines.proofs.AnswerLaws.{one_more}
use Rattle.lines.proofs.CallLinesDisplay.fmt.Goals as goal

pub loop-call-preserved : goal.loop-call-preserved
loop-call-preserved g c = λ plain.
    let before = c.loop-call.invariant plain in
    let answers = c.args.self.now.answers.now in
    let calls = c.args.self.now.calls in
    let is : c.in-Some.answers.now ≡ first_chunks 5 calls answers = search rules in
    has_written_of_eq _ _ _ _ _ (one_more answers c.in-Some.answers.now calls is c.loop-call.call _ (search rules) c.of_call-line.ensures.text)
    (has_written_append _ _ _ _ _ _ before (c.in_ok-write.ensures.writes before.plain (search rules)))
