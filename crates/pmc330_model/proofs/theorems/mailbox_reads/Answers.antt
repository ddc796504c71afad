use Rattle.pmc330_model.proofs.Looks.{mailbox_reads}
use Rattle.pmc330_model.proofs.theorems.mailbox_reads.Goals as goal

pub returns : goal.returns
returns c = mailbox_reads
