use Rattle.pmc330_c.proofs.Sentences.{refused_opens}
use Rattle.pmc330_c.proofs.theorems.refused_opens.Goals as goal

pub returns : goal.returns
returns c = refused_opens
