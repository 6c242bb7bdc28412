-- The sum of the counts falls with each parent.
use Rattle.mos.specs.Patterns.{count_of}
use Rattle.mos_walks.proofs.parts.+root.Given as goal

abbrev pub decreases-root : goal.decreases-root
decreases-root l = count_of l.m.mos
