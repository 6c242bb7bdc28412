-- Question 7, then what the part found.
use mathlib.Core.Path.{ap, ◌∙◌}
use Rattle.mos.specs.Patterns.{dual_of}
use Rattle.mos.proofs.Sizes.{size_passed, size_given}
use Rattle.mos.proofs.Mos.dual.Goals as goal

pub returns-in_err-pattern : goal.returns-in_err-pattern
returns-in_err-pattern c = size_passed _ _ _ c.from_residual.ensures c.in_err-pattern.ensures

pub returns : goal.returns
returns c = size_given _ c.in_ok-pattern.ensures c.in_ok-pattern.pattern.fits (c.dual.ensures ∙ ap dual_of c.in_ok-pattern.ensures)
