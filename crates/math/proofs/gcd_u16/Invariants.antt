-- Euclid's loop keeps the greatest common divisor of its two numbers, and the second one falls.
use mathlib.Core.Path.{◌≡◌}
use Rattle.math.specs.Gcd.{gcd}
use Rattle.math.proofs.gcd_u16.Given as goal

abbrev pub invariant-loop-b : goal.invariant-loop-b
invariant-loop-b l = gcd l.a l.b ≡ gcd l.x l.y

abbrev pub decreases-loop-b : goal.decreases-loop-b
decreases-loop-b l = l.b
