use Rattle.pmc330_c.proofs.Sentences.{refused_steps}
use Rattle.pmc330_c.proofs.theorems.refused_steps.Goals as goal

pub returns : goal.returns
returns c = refused_steps
