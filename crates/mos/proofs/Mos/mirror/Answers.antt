-- Question 7, then the mirrored pattern.
use mathlib.Core.Path.{ap}
use Rattle.mos.specs.Patterns.{mirror_of}
use Rattle.mos.proofs.Sizes.{size_passed, size_given}
use Rattle.mos.proofs.Mos.mirror.Goals as goal

pub returns-in_err-mos : goal.returns-in_err-mos
returns-in_err-mos c = size_passed _ _ _ c.from_residual.ensures c.in_err-mos.ensures

pub returns : goal.returns
returns c = size_given _ c.in_ok-mos.ensures c.in_ok-mos.field-0.fits (ap mirror_of c.in_ok-mos.ensures)
