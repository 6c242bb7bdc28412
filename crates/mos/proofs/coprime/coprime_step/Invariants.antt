-- The loop keeps the divisor of both steps in hand, and the step that the passes end with; what is left falls with each pass.
use mathlib.Core.Path.{◌≡◌}
use Rattle.math.specs.Gcd.{gcd_or_one}
use Rattle.mos.specs.Coprime.{coprime_step}
use Rattle.mos.proofs.Passes.{left}
use Rattle.mos.proofs.coprime.coprime_step.Given as goal

abbrev pub invariant-loop-g : goal.invariant-loop-g
invariant-loop-g l = (l.g ≡ gcd_or_one l.p l.step) × (coprime_step l.p l.step ≡ coprime_step l.p l.s)

abbrev pub decreases-loop-g : goal.decreases-loop-g
decreases-loop-g l = left l.p l.step
