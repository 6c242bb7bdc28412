-- The loop's number is above 0 and keeps its odd factors while it is halved.
use Prim.Native.Nat.{◌<◌}
use mathlib.Core.Path.{◌≡◌}
use Rattle.math.specs.OddFactors.{odd_factors}
use Rattle.math.proofs.odd_factors_u16.Given as goal

abbrev pub invariant-loop-odd : goal.invariant-loop-odd
invariant-loop-odd l = (0 < l.odd) × (odd_factors l.odd ≡ odd_factors l.number)

abbrev pub decreases-loop-odd : goal.decreases-loop-odd
decreases-loop-odd l = l.odd
