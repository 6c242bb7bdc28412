-- A parent is a pattern, of the same size.
use Rattle.mos.proofs.Descent.{parent_keeps_pattern}
use Rattle.mos.proofs.pattern.Pattern.parent.Goals as goal

pub invariant_of-result : goal.invariant_of-result
invariant_of-result c = record { fits = parent_keeps_pattern _ _ c.parent_of.ensures c.args.self.fits }
