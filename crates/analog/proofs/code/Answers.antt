-- The products fit, and the quotient is the definition's by `code_law`.
use mathlib.Core.Path.{◌∙◌}
use native.Mathlib.Omega.{arith}
use mir.Facts.{to_z-of_z}
use Rattle.analog.proofs.CodeLaw.{code_law}
use Rattle.analog.proofs.code.Goals as goal

pub returns : goal.returns
returns c =
    let a = c.args in
    let f = c.ranges in
    c.limited_quotient.ensures
    ∙ simp (c.scale_of-scale.ensures.depth, c.raised.ensures, to_z-of_z f.microvolts, c.scale_of-scale.ensures.factor, c.gain_of-g.ensures)
    (omega (arith, code_law a.range a.gain a.microvolts f.microvolts.sfits))
