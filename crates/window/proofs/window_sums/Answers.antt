-- The window has filled, and then slid to the end of the run.
use Rattle.std.proofs.Common.{length, sym, ◌∙◌, append-nil, arith, le-leb}
use Rattle.std.proofs.lemmas.List.{take_all, drop_all}
use Rattle.analog.specs.Answers.{all_met}
use Rattle.window.specs.Window.{window_output}
use Rattle.window.proofs.WindowLaws.{slid_is}
use Rattle.window.proofs.window_sums.Goals as goal

pub returns-clause-output : goal.returns-clause-output
unfolding window_output all_met
returns-clause-output c =
    let valid = sym c.is_length.ensures ∙ c.if-not-is_length.false in
    let room = le-leb (length c.args.codes.now) (length c.args.sums.now) c.if-sums-codes.false in
    rw (valid, room) (grind (arith, take_all, drop_all, append-nil) ∙ slid_is _ _ _ _ _ _ c.held-count.ensures c.fill-filled.ensures.output c.slide.ensures)
