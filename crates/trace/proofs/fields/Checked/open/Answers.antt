-- Its range is a board's.
use mathlib.Core.Path.{◌∙◌}
use native.Mathlib.Omega.{arith}
use Rattle.trace.proofs.CheckLaws.{is_heading_lem, walkable}
use Rattle.trace.proofs.PlayLaws.{opened_board}
use Rattle.trace.proofs.fields.Checked.open.Goals as goal

pub bounds-self-7 : goal.bounds-self-7
bounds-self-7 c = omega (arith, (walkable c.args.self.trace.now c.args.self.passed).long)

pub returns : goal.returns
returns c =
    let self = c.args.self in
    c.open.ensures.board ∙ opened_board self.trace.now (is_heading_lem self.trace.now self.passed) _ c.from.result c.from.ensures
