-- What `nearest_count` asks follows from the tables' bounds and the questions; the rest is `correction_law`.
use mathlib.Core.Path.{sym, ◌∙◌}
use Rattle.analog.proofs.CorrectionLaw.{correction_law}
use Rattle.analog.proofs.corrected_count.Goals as goal

pub returns : goal.returns
returns c =
    let args = c.args in
    let asked = c.requires in
    c.nearest_count.ensures
    ∙ simp (
      c.from-3.ensures,
      c.from-2.ensures,
      c.scale_of-scale.ensures.factor,
      c.from-span.ensures,
      c.scale_of-scale.ensures.depth,
      c.from.ensures,
      c.calibration-2.ensures,
      c.from-low_voltage.ensures,
      c.calibration.ensures,
      c.gain_of-g.ensures,
    )
    (sym
    (correction_law args.range args.gain args.high args.low args.high_sum args.low_sum args.raw asked.voltages asked.sums))
