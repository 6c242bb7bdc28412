use mathlib.Core.Path.{sym, ◌∙◌}
use borrow.Author.Rules.{rules}
use Rattle.mos.proofs.Descent.{child_at, child_falls}
use Rattle.mos_moves.proofs.Going.{going_pattern, going_small}
use Rattle.mos_moves.proofs.Listing.{listing_start, listing_room, listing_more, listing_end}
use Rattle.mos_moves.proofs.parts.list_moves.Goals as goal

pub start-table-requires : goal.start-table-requires
start-table-requires c = c.requires.0

pub loop-pattern-init : goal.loop-pattern-init
loop-pattern-init c = listing_start _ _ c.requires.0 _ _ _ c.requires.1 c.start-table.ensures

pub put_moves-place-requires : goal.put_moves-place-requires
put_moves-place-requires c =
    let l = c.loop-pattern.invariant in (
      listing_room l c.requires.2,
      going_small _ _ c.requires.0 (search rules) (search rules) _ _ l.going,
    )

pub child_moves-next-requires : goal.child_moves-next-requires
child_moves-next-requires c =
    going_small _ _ c.requires.0 (search rules) (search rules) _ _ c.loop-pattern.invariant.going

pub child_of-pattern-requires : goal.child_of-pattern-requires
child_of-pattern-requires c = (
  going_pattern _ _ c.requires.0 (search rules) (search rules) _ _ c.loop-pattern.invariant.going,
  sym c.has_child.ensures ∙ c.loop-pattern-test.true,
)

pub loop-pattern-smaller : goal.loop-pattern-smaller
loop-pattern-smaller c = child_falls (child_at c.child_of-pattern.ensures)

pub loop-pattern-preserved : goal.loop-pattern-preserved
loop-pattern-preserved c =
    listing_more c.loop-pattern.invariant c.put_moves-place.ensures _ c.child_of-pattern.ensures _ c.child_moves-next.ensures

pub put_moves-requires : goal.put_moves-requires
put_moves-requires c =
    let l = c.loop-pattern.invariant in (
      listing_room l c.requires.2,
      going_small _ _ c.requires.0 (search rules) (search rules) _ _ l.going,
    )

pub returns : goal.returns
returns c =
    listing_end c.loop-pattern.invariant c.put_moves.ensures (sym c.has_child.ensures ∙ c.loop-pattern-test.false)
