use native.Mathlib.Omega.{arith}
use Rattle.text.proofs.Writing.{wrote_length}
use Rattle.kbm_text.proofs.Listing.{list_start, list_room, list_more, list_few, list_end}
use Rattle.kbm_text.proofs.scan.put_keys.Goals as goal

pub loop-at-init : goal.loop-at-init
loop-at-init c = list_start _ _

pub line_from-line-requires : goal.line_from-line-requires
line_from-line-requires c = (c.requires.0, c.loop-at-test.true)

pub put_key-spot-requires : goal.put_key-spot-requires
put_key-spot-requires c =
    let p = c.requires in
    (list_room _ _ _ _ _ c.loop-at.invariant _ c.line_from-line.ensures.0 _ c.line_from-line.ensures.1 p.1, list_few _ _ _ _ _ c.loop-at.invariant p.2)

pub overflow_add-at : goal.overflow_add-at
overflow_add-at c = omega (arith, c.line_from-line.ensures.0.inside)

pub loop-at-smaller : goal.loop-at-smaller
loop-at-smaller c = let e = c.line_from-line.ensures.0 in omega (arith, e.from, e.inside)

pub loop-at-preserved : goal.loop-at-preserved
loop-at-preserved c =
    list_more _ _ _ _ _ c.loop-at.invariant _ c.line_from-line.ensures.0 _ c.line_from-line.ensures.1 _ _ c.put_key-spot.ensures

pub shape_of-out : goal.shape_of-out
shape_of-out c = wrote_length c.loop-at.invariant.wrote

pub returns : goal.returns
returns c = list_end _ _ _ _ _ c.loop-at.invariant c.loop-at-test.false
