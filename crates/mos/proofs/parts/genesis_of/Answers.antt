-- The step is below the period.
use native.Mathlib.Nat.{mod-lt, le_of_lt}
use Rattle.mos.proofs.parts.genesis_of.Goals as goal

pub overflow_sub-result : goal.overflow_sub-result
overflow_sub-result c = le_of_lt (mod-lt _ c.requires)
