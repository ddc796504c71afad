-- What a call's arm and that of a difference write is their line.
use Rattle.std.proofs.Common.{arith}
use Rattle.std.proofs.lemmas.Grind.{common_steps}
use Rattle.lines.specs.Text.{differs_of}
use Rattle.lines.proofs.TextLaws.{decimal_same, hex_same}
use Rattle.lines.proofs.LineDisplay.fmt.Goals as goal

pub returns-in-Call-clause-writes : goal.returns-in-Call-clause-writes
returns-in-Call-clause-writes g c = grind (arith, common_steps, decimal_same, hex_same)

pub returns-in-Differs-clause-writes : goal.returns-in-Differs-clause-writes
unfolding differs_of
returns-in-Differs-clause-writes g c = grind (arith, common_steps, decimal_same)
