-- The player's answer as one number.
use mathlib.Core.Path.{ap, ◌∙◌}
use lib.ListN.{length}
use Rattle.analog.specs.Answers.{packed}
use Rattle.trace.proofs.Sentences.{plays_packed}
use Rattle.pmc330_c.proofs.pmc330_play.Goals as goal

pub returns-clause-result : goal.returns-clause-result
returns-clause-result c =
    c.packed.ensures
    ∙ ap packed c.play.ensures.result
    ∙ plays_packed c.args.trace.now (length c.args.answers.now)
