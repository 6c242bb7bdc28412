-- No layout, or one.
use Rattle.edo_counts.proofs.Counting.{counts_none, counts_one}
use Rattle.edo_counts.proofs.parts.Tally.with_chain.Goals as goal

pub returns-in-Err : goal.returns-in-Err
returns-in-Err c = counts_none _ _ _ _ c.in-Err.ensures

pub returns-in-Ok : goal.returns-in-Ok
returns-in-Ok c = counts_one _ _ _ _ _ c.in-Ok.ensures c.with_pattern.ensures
