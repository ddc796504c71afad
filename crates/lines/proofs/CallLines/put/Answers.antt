-- Each turn puts the line of one more call.
use Rattle.std.proofs.Common.{rules, ℕ, ◌≡◌, ◌+◌, List, ◌++◌, length, length-append, ap, subst, arith}
use Rattle.std.specs.Simd.{first_chunks}
use Rattle.lines.specs.Text.{lines_of, text_of, Begins}
use Rattle.lines.proofs.AnswerLaws.{one_more}
use Rattle.lines.proofs.PartLaws.{begins_none, begins_line, puts_lines}
use Rattle.lines.proofs.CallLines.put.Goals as goal

pub loop-call-init : goal.loop-call-init
unfolding lines_of
loop-call-init c = record { fits = omega arith; text = begins_none c.args.out.now }

pub loop-call-preserved : goal.loop-call-preserved
loop-call-preserved c =
    let answers = c.args.self.answers.now in
    let calls = c.args.self.calls in
    let line : List ℕ = text_of c.of_call.result in
    let is : c.in-Some.answers.now ≡ first_chunks 5 calls answers = search rules in
    let more : lines_of answers c.loop-call.call ++ line ≡ lines_of answers (c.loop-call.call + 1) =
    one_more answers c.in-Some.answers.now calls is c.loop-call.call line (search rules) c.of_call.ensures.text in
    let before = c.loop-call.invariant in
    let text =
    begins_line (lines_of answers c.loop-call.call) line _ c.args.out.now c.loop-call.out c.put-at.new.out c.loop-call.at c.put-at.result before.text (omega (arith, before.fits)) c.loop-call.auto.out c.of_call.ensures.short c.put-at.ensures more in
    record { fits = omega (arith, before.fits, before.text.counted, text.counted, ap length more, length-append (lines_of answers c.loop-call.call) line, c.of_call.ensures.short); text = text }

pub returns : goal.returns
returns c =
    let answers = c.args.self.answers.now in
    let calls = c.args.self.calls in
    let last : c.loop-call.call ≡ calls = search rules in
    puts_lines answers c.args.out.now c.loop-call.out calls c.loop-call.at (search rules) (omega (arith, last))
    (subst (λ n. Begins (lines_of answers n) c.args.out.now c.loop-call.out c.loop-call.at) last c.loop-call.invariant.text)
