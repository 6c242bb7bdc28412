-- Question 7, then the number.
use mathlib.Core.Path.{ap}
use Rattle.mos.specs.Patterns.{primaries}
use Rattle.mos.proofs.Sizes.{size_passed, size_given}
use Rattle.mos.proofs.Mos.num_primary_steps.Goals as goal

pub returns-in_err-pattern : goal.returns-in_err-pattern
returns-in_err-pattern c = size_passed _ _ _ c.from_residual.ensures c.in_err-pattern.ensures

pub returns : goal.returns
returns c = size_given _ c.in_ok-pattern.ensures c.in_ok-pattern.pattern.fits (ap primaries c.in_ok-pattern.ensures)
