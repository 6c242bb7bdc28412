-- A run: what is listed and what is still to come make up the whole walk; the steps of the dual fall with each pattern.
use Rattle.mos.specs.Patterns.{steps_of}
use Rattle.mos_listings.specs.Parts.{Listing, dual_parents}
use Rattle.mos_listings.proofs.parts.list_parent_run.Given as goal

abbrev pub invariant-loop-out : goal.invariant-loop-out
invariant-loop-out l = Listing dual_parents l.initial.next l.initial.out l.initial.place l.next l.out l.place

abbrev pub decreases-loop-out : goal.decreases-loop-out
decreases-loop-out l = steps_of l.next
