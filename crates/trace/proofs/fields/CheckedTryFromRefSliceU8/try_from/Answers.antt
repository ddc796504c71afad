-- What the check finds is what the questions say.
use mathlib.Core.Path.{sym, ap, ◌∙◌}
use Rattle.std.specs.Prelude.{Err}
use Rattle.std.proofs.lemmas.Result.{err_from_is_err_and}
use Rattle.trace.proofs.CheckLaws.{found_refused, found_calls}
use Rattle.trace.proofs.fields.CheckedTryFromRefSliceU8.try_from.Goals as goal

pub returns-in_err-calls : goal.returns-in_err-calls
returns-in_err-calls c =
    let p = err_from_is_err_and c.from_residual.result c.from_residual.ensures.1 in
    rw (p.1 ∙ ap Err p.2) (found_refused c.args.trace.now _ (sym c.in_err-calls.was ∙ c.check.ensures))

pub invariant_of-result : goal.invariant_of-result
invariant_of-result c =
    let found = found_calls c.args.trace.now c.in_ok-calls.calls (sym c.in_ok-calls.was ∙ c.check.ensures) in
    record { passed = found.0; counted = found.1 }
