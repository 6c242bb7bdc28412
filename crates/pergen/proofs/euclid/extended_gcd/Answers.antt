use native.Mathlib.Nat.{mod-lt}
use native.Mathlib.Omega.{arith}
use borrow.Author.Rules.{rules}
use Rattle.pergen.proofs.ExtendedEuclid.{step, next_small, last_small, done}
use Rattle.pergen.proofs.euclid.extended_gcd.Goals as goal

pub loop-r1-init : goal.loop-r1-init
loop-r1-init c = c.requires

pub overflow_mul-c2 : goal.overflow_mul-c2
overflow_mul-c2 c = omega (arith, next_small _ _ _ _ _ _ _ c.loop-r1.invariant (search rules))

pub overflow_add-c2 : goal.overflow_add-c2
overflow_add-c2 c = omega (arith, next_small _ _ _ _ _ _ _ c.loop-r1.invariant (search rules))

pub loop-r1-smaller : goal.loop-r1-smaller
loop-r1-smaller c = mod-lt c.loop-r1.r0 (search rules)

pub loop-r1-preserved : goal.loop-r1-preserved
loop-r1-preserved c = step _ _ _ _ _ _ _ c.loop-r1.invariant (search rules)

pub overflow_cast-result : goal.overflow_cast-result
overflow_cast-result c = omega (arith, c.loop-r1.invariant.small₀)

pub overflow_cast-result-2 : goal.overflow_cast-result-2
overflow_cast-result-2 c = omega (arith, last_small _ _ _ _ _ _ _ c.loop-r1.invariant c.loop-r1-test.false)

pub overflow_cast-result-3 : goal.overflow_cast-result-3
overflow_cast-result-3 c = omega (arith, last_small _ _ _ _ _ _ _ c.loop-r1.invariant c.loop-r1-test.false, c.loop-r1.invariant.ordered c.loop-r1-test.false)

pub returns : goal.returns
returns c = done _ _ _ _ _ _ _ c.loop-r1.invariant c.loop-r1-test.false
