-- It has a heading.
use Rattle.trace.proofs.CheckLaws.{walkable}
use Rattle.trace.proofs.fields.Checked.fields.Goals as goal

pub of-requires : goal.of-requires
of-requires c = (walkable c.args.self.trace.now c.args.self.passed).long
