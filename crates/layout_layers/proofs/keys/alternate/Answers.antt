-- The definition's test.
use native.Mathlib.Omega.{arith}
use native.Mathlib.Nat.{mul-le-mul}
use Rattle.layout_layers.proofs.PlanLaws.{alternating_same, alternating_other, steps_fit}
use Rattle.layout_layers.proofs.keys.alternate.Goals as goal

pub overflow_mul-here : goal.overflow_mul-here
overflow_mul-here c = omega (arith, mul-le-mul {n₂ = 524280} {m₂ = 9} c.requires.2 c.requires.1)

pub overflow_mul-there : goal.overflow_mul-there
overflow_mul-there c = omega (arith, steps_fit c.args.offset c.args.secondaries c.args.group c.requires.1 c.requires.2 c.requires.3)

pub returns-then-here-there : goal.returns-then-here-there
returns-then-here-there c = alternating_same _ _ _ _ c.if-here-there.true

pub returns : goal.returns
returns c = alternating_other _ _ _ _ c.if-here-there.false
