-- A bound on the number of patterns, or their count.
use Rattle.mos.specs.Walks.{children}
use Rattle.mos.proofs.Sequences.{children_few}
use Rattle.mos_listings.proofs.Listings.{fits_most, fits_count}
use Rattle.mos_listings.proofs.parts.children_fit.Goals as goal

pub returns-then-most-room : goal.returns-then-most-room
returns-then-most-room c = fits_most (children c.args.m.mos) _ _ (children_few c.args.m.mos) c.if-most-room.true

pub returns : goal.returns
returns c = fits_count (children c.args.m.mos) _ _ c.count_children.ensures
