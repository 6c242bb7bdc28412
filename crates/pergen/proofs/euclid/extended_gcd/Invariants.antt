-- At each turn both remainders are left by their coefficients, one of them counted backward (`Going`).
use Rattle.pergen.specs.Parts.{Going}
use Rattle.pergen.proofs.euclid.extended_gcd.Given as goal

abbrev pub invariant-loop-r1 : goal.invariant-loop-r1
invariant-loop-r1 l = Going l.period l.generator l.r0 l.r1 l.c0 l.c1 l.negative

abbrev pub decreases-loop-r1 : goal.decreases-loop-r1
decreases-loop-r1 l = l.r1
