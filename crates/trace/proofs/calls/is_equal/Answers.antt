-- Where the numbers are the same, the low 16 bits of the values decide.
use mathlib.Core.Path.{◌≡◌, sym, ◌∙◌}
use Rattle.std.proofs.Common.{rules}
use Rattle.analog.specs.Answers.{number_of}
use Rattle.trace.specs.Replay.{recorded_number}
use Rattle.trace.proofs.FieldLaws.{first_byte}
use Rattle.trace.proofs.ReplayLaws.{equal_by_values}
use Rattle.trace.proofs.calls.is_equal.Goals as goal

pub returns-then-number_of-body : goal.returns-then-number_of-body
returns-then-number_of-body c =
    let number : number_of c.args.answer ≡ recorded_number c.args.body.now = sym c.number_of.ensures ∙ c.if-number_of-body.true ∙ first_byte c.args.body.now in
    search rules ∙ equal_by_values c.args.answer c.args.body.now number _ _ c.unwrap_or.ensures c.number.ensures
