-- The parts are the line.
use Rattle.std.proofs.Common.{ℕ, List, ◌++◌, ap, ap₂, ◌∙◌, arith}
use Rattle.std.proofs.lemmas.Grind.{common_steps}
use Rattle.lines.specs.Text.{decimal_of, blank, newline, line_of, refused_of, agree_word, agree_of, differs_word, differs_of}
use Rattle.lines.proofs.TextLaws.{decimal_same}
use Rattle.lines.proofs.PartLaws.{takes}
use Rattle.lines.proofs.Line.put.Goals as goal

pub returns-in-Call : goal.returns-in-Call
returns-in-Call c =
    rw c.in-Call.is
    (takes (line_of c.in-Call.index c.in-Call.number c.in-Call.value) _ c.args.out.now _ _ c.if-out-lt32.false c.put_parts.ensures
    (ap₂ (λ (index rest : List ℕ). index ++ (blank ++ rest)) {y = decimal_of c.in-Call.index} (grind (arith, common_steps, decimal_same))
    (ap₂ (λ (number value : List ℕ). number ++ (blank ++ (value ++ newline))) {y = decimal_of c.in-Call.number} (grind (arith, common_steps, decimal_same)) c.hex_digits.ensures)
    ∙ grind (arith, common_steps)))

pub returns-in-Refused : goal.returns-in-Refused
unfolding refused_of
returns-in-Refused c =
    rw c.in-Refused.is
    (takes (refused_of c.in-Refused.number) _ c.args.out.now _ _ c.if-out-lt32.false c.put_parts-in-Refused.ensures (grind (arith, common_steps, decimal_same)))

pub returns-in-Agree : goal.returns-in-Agree
unfolding agree_of
returns-in-Agree c =
    rw c.in-Agree.is
    (takes (agree_of c.in-Agree.count) _ c.args.out.now _ _ c.if-out-lt32.false c.put_parts-in-Agree.ensures
    (ap (λ (count : List ℕ). agree_word ++ count ++ newline) (grind (arith, common_steps, decimal_same))))

pub returns-in-Differs : goal.returns-in-Differs
unfolding differs_of
returns-in-Differs c =
    rw c.in-Differs.is
    (takes (differs_of c.in-Differs.index c.in-Differs.count) _ c.args.out.now _ _ c.if-out-lt32.false c.put_parts-in-Differs.ensures
    (ap₂ (λ (index rest : List ℕ). differs_word ++ (index ++ (blank ++ rest))) {y = decimal_of c.in-Differs.index} (grind (arith, common_steps, decimal_same))
    (ap (λ (count : List ℕ). count ++ newline) {y = decimal_of c.in-Differs.count} (grind (arith, common_steps, decimal_same)))
    ∙ grind (arith, common_steps)))
