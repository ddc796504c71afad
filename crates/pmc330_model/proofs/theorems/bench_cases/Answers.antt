use Rattle.pmc330_model.proofs.Bench.{bench_cases}
use Rattle.pmc330_model.proofs.theorems.bench_cases.Goals as goal

pub returns : goal.returns
returns c = bench_cases
