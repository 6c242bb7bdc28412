use Rattle.text.proofs.Writing.{wrote_length}
use Rattle.mos.specs.Walks.{children}
use Rattle.mos.proofs.Descent.{child_at, child_falls}
use Rattle.mos.proofs.Sequences.{children_follow}
use Rattle.mos_listings.proofs.Runs.{both_left, listing_start, listing_room, listing_more}
use Rattle.mos_listings.proofs.parts.list_child_run.Goals as goal

pub loop-out-init : goal.loop-out-init
loop-out-init c = listing_start children (λ m. m) children_follow _ _ _ c.requires.0

pub put_pattern-place-requires : goal.put_pattern-place-requires
put_pattern-place-requires c =
    listing_room children (λ m. m) children_follow _ _ c.loop-out.invariant c.requires.1

pub child_of-next-requires : goal.child_of-next-requires
child_of-next-requires c = (c.loop-out.invariant.pattern, both_left _ _ c.shortens.ensures c.loop-out-test.true)

pub loop-out-smaller : goal.loop-out-smaller
loop-out-smaller c = child_falls (child_at c.child_of-next.ensures)

pub loop-out-preserved : goal.loop-out-preserved
loop-out-preserved c =
    listing_more children (λ m. m) children_follow _ _ c.loop-out.invariant c.child_of-next.result c.child_of-next.ensures c.put_pattern-place.ensures

pub shape_of-out : goal.shape_of-out
shape_of-out c = wrote_length c.loop-out.invariant.wrote

pub returns : goal.returns
returns c = c.loop-out.invariant
