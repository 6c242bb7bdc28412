-- Question 7, then the size by the divisor of the steps.
use Prim.Native.Nat.{ℕ, ◌/◌}
use mathlib.Core.Path.{ap, ap₂, ◌∙◌}
use Rattle.mos.specs.Patterns.{reduced_size_of}
use Rattle.mos.proofs.Sizes.{size_passed, size_given}
use Rattle.mos.proofs.Mos.reduced_size.Goals as goal

pub returns-in_err-pattern : goal.returns-in_err-pattern
returns-in_err-pattern c = size_passed _ _ _ c.from_residual.ensures c.in_err-pattern.ensures

pub returns : goal.returns
unfolding reduced_size_of
returns c =
    size_given _ c.in_ok-pattern.ensures c.in_ok-pattern.pattern.fits
    (ap₂ (λ (x y : ℕ). x / y) c.size.ensures c.num_cycles.ensures.0 ∙ ap reduced_size_of c.in_ok-pattern.ensures)
