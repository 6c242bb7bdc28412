-- The sum of the steps falls with each leap.
use Rattle.mos.specs.Patterns.{steps_of}
use Rattle.mos_listings.proofs.parts.+count_children.Given as goal

abbrev pub decreases-count_children : goal.decreases-count_children
decreases-count_children l = steps_of l.m.mos
