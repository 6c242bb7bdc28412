-- Each return is one case; a sum is made only where both counts are in the size.
use native.Mathlib.Nat.{le-mul_of_pos_right, pos_of_ne-zero}
use native.Mathlib.Omega.{arith}
use Rattle.mos_layers.proofs.Plans.{holding_none, holding_second, holding_first, holding_both}
use Rattle.mos_layers.proofs.parts.held.Goals as goal

pub returns-then-y-eq0 : goal.returns-then-y-eq0
returns-then-y-eq0 c = holding_none _ _ _ _ c.if-x-eq0.true c.if-y-eq0.true

pub returns-else-y-eq0 : goal.returns-else-y-eq0
returns-else-y-eq0 c = holding_second _ _ _ _ c.if-x-eq0.true c.if-y-eq0.false

pub overflow_add-result : goal.overflow_add-result
overflow_add-result c =
    omega (
      arith,
      le-mul_of_pos_right c.args.a (pos_of_ne-zero c.if-x-eq0.false),
      le-mul_of_pos_right c.args.b (pos_of_ne-zero c.if-y-eq0-2.false),
    )

pub returns-then-y-eq0-2 : goal.returns-then-y-eq0-2
returns-then-y-eq0-2 c = holding_first _ _ _ _ c.if-x-eq0.false c.if-y-eq0-2.true

pub returns-else-y-eq0-2 : goal.returns-else-y-eq0-2
returns-else-y-eq0-2 c = holding_both _ _ _ _ c.if-x-eq0.false c.if-y-eq0-2.false
