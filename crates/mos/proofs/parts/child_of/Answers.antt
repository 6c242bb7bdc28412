-- Each return is one way to a child; the counts fit since both steps are above 0 and the size fits.
use native.Mathlib.Omega.{arith}
use Rattle.mos.proofs.Descent.{has_child, child_longer_primary, child_longer_secondary, count_fits}
use Rattle.mos.proofs.parts.child_of.Goals as goal

pub overflow_add-result : goal.overflow_add-result
overflow_add-result c = omega (arith, count_fits c.args.m c.requires.0 c.requires.1)

pub returns-then-s-p : goal.returns-then-s-p
returns-then-s-p c = child_longer_primary _ (has_child _ c.requires.1).above_secondary c.if-s-p.true

pub overflow_add-result-2 : goal.overflow_add-result-2
overflow_add-result-2 c = omega (arith, count_fits c.args.m c.requires.0 c.requires.1)

pub returns : goal.returns
returns c =
    let h = has_child c.args.m c.requires.1 in
    child_longer_secondary _ h.above_primary (omega (arith, h.unequal))
