-- The calls of a checked trace are replayed on a new board.
use mathlib.Core.Path.{sym, ap, ◌∙◌}
use Rattle.std.specs.Prelude.{Ok, Err}
use Rattle.std.proofs.lemmas.Result.{err_from_is_err_and}
use Rattle.trace.specs.Replay.{replayed}
use Rattle.trace.proofs.ReplayLaws.{replay_refused, replay_runs}
use Rattle.trace.proofs.replay.Goals as goal

pub returns-in_err-try_from : goal.returns-in_err-try_from
returns-in_err-try_from c =
    let p = err_from_is_err_and c.from_residual.result c.from_residual.ensures.1 in
    p.1 ∙ ap Err p.2 ∙ sym (replay_refused c.args.trace.now c.in_err-try_from.field-0.0 c.in_err-try_from.ensures)

pub returns : goal.returns
returns c =
    let checked = c.in_ok-try_from.field-0 in
    ap Ok c.replay_calls.ensures ∙ sym (replay_runs checked.trace.now checked.passed) ∙ ap replayed c.in_ok-try_from.ensures
