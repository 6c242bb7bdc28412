-- A child is a pattern, of the same size.
use Rattle.mos.proofs.Descent.{child_at, child_keeps_pattern}
use Rattle.mos.proofs.pattern.Pattern.child.Goals as goal

pub invariant_of-result : goal.invariant_of-result
invariant_of-result c = record { fits = child_keeps_pattern (child_at c.child_of.ensures) c.args.self.fits }
