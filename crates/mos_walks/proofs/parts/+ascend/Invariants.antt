-- The sum of the counts falls with each parent.
use Rattle.mos.specs.Patterns.{count_of}
use Rattle.mos_walks.proofs.parts.+ascend.Given as goal

abbrev pub decreases-ascend : goal.decreases-ascend
decreases-ascend l = count_of l.m.mos
