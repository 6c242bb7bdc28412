-- Both distances are known; a tie goes to the first.
use mathlib.Core.Path.{refl}
use mathlib.Core.Logic.{inl, inr}
use native.Mathlib.Omega.{arith}
use Rattle.layout_reach.proofs.parts.nearer_end.Goals as goal

pub returns-then-distance : goal.returns-then-distance
returns-then-distance c = record { which = inl (refl, omega (arith, c.distance.ensures, c.distance-2.ensures, c.if-distance.true)) }

pub returns : goal.returns
returns c = record { which = inr (refl, omega (arith, c.distance.ensures, c.distance-2.ensures, c.if-distance.false)) }
