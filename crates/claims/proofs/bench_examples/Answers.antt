use Rattle.layout_lamps.proofs.BenchExamples.{bench_examples_hold}
use Rattle.claims.proofs.bench_examples.Goals as goal

pub returns : goal.returns
returns c = bench_examples_hold
