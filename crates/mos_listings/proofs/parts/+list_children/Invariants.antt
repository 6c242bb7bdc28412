-- The sum of the steps falls with each run.
use Rattle.mos.specs.Patterns.{steps_of}
use Rattle.mos_listings.proofs.parts.+list_children.Given as goal

abbrev pub decreases-list_children : goal.decreases-list_children
decreases-list_children l = steps_of l.m
