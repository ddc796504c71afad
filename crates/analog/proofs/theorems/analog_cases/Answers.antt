use Rattle.analog.proofs.Bench.{analog_cases}
use Rattle.analog.proofs.theorems.analog_cases.Goals as goal

pub returns : goal.returns
returns c = analog_cases
