-- A pattern's size fits.
use native.Mathlib.Omega.{arith}
use Rattle.mos.proofs.Sizes.{pattern_fits}
use Rattle.mos.proofs.pattern.Pattern.size.Goals as goal

pub overflow_cast-result : goal.overflow_cast-result
overflow_cast-result c = omega (arith, c.wide_size.ensures, pattern_fits _ c.args.self.fits)
