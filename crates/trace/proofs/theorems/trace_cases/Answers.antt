use Rattle.trace.proofs.Bench.{trace_cases}
use Rattle.trace.proofs.theorems.trace_cases.Goals as goal

pub returns : goal.returns
returns c = trace_cases
