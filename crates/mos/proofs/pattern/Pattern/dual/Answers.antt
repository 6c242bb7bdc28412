-- The dual has the same size.
use mathlib.Core.Path.{ap, ◌∙◌}
use Rattle.mos.specs.Patterns.{is_pattern}
use Rattle.mos.proofs.Sizes.{dual_pattern}
use Rattle.mos.proofs.pattern.Pattern.dual.Goals as goal

pub invariant_of-result : goal.invariant_of-result
invariant_of-result c = record { fits = ap is_pattern c.dual_of.ensures ∙ dual_pattern c.args.self.mos ∙ c.args.self.fits }
