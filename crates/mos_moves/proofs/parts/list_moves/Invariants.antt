-- What is listed and what is still to come make up the whole; the steps fall with each pattern.
use Rattle.mos.specs.Patterns.{steps_of}
use Rattle.mos_moves.proofs.Listing.{Listing}
use Rattle.mos_moves.proofs.parts.list_moves.Given as goal

abbrev pub invariant-loop-pattern : goal.invariant-loop-pattern
invariant-loop-pattern l = Listing l.period l.generator l.initial.out l.out l.pattern l.table l.place

abbrev pub decreases-loop-pattern : goal.decreases-loop-pattern
decreases-loop-pattern l = steps_of l.pattern
