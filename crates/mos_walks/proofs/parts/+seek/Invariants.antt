-- The sum of the steps falls with each child.
use Rattle.mos.specs.Patterns.{mos, steps_of}
use Rattle.mos_walks.proofs.parts.+seek.Given as goal

abbrev pub decreases-seek : goal.decreases-seek
decreases-seek l = steps_of (mos l.a l.b l.p l.s)
