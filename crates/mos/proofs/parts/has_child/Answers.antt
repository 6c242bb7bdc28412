-- No child with a step of 0 or with equal steps; a child otherwise.
use Rattle.mos.proofs.Descent.{no_child_zero_primary, no_child_zero_secondary, child_unless_equal}
use native.Mathlib.Omega.{arith}
use Rattle.mos.proofs.parts.has_child.Goals as goal

pub returns-then-m-eq0 : goal.returns-then-m-eq0
returns-then-m-eq0 c = no_child_zero_primary _ c.if-m-eq0.true

pub returns-then-m-eq0-2 : goal.returns-then-m-eq0-2
returns-then-m-eq0-2 c = no_child_zero_secondary _ c.if-m-eq0.false c.if-m-eq0-2.true

pub returns : goal.returns
returns c = child_unless_equal _ (omega arith) (omega arith)
