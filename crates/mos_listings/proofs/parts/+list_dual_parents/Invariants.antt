-- The sum of the steps falls with each run.
use Rattle.mos.specs.Patterns.{steps_of}
use Rattle.mos_listings.proofs.parts.+list_dual_parents.Given as goal

abbrev pub decreases-list_dual_parents : goal.decreases-list_dual_parents
decreases-list_dual_parents l = steps_of l.dual
