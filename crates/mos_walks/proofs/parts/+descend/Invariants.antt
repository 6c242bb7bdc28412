-- The sum of the steps falls with each child.
use Rattle.mos.specs.Patterns.{steps_of}
use Rattle.mos_walks.proofs.parts.+descend.Given as goal

abbrev pub decreases-descend : goal.decreases-descend
decreases-descend l = steps_of l.m.mos
