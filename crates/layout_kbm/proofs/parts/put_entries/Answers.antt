use mathlib.Core.Path.{refl, ap, ◌∙◌}
use native.Mathlib.Omega.{arith}
use lib.ListN.{length}
use Rattle.text.proofs.Writing.{wrote_as, wrote_length}
use Rattle.text.proofs.Joined.{joined_start, joined_step, joined_room}
use Rattle.layout.specs.Parts.{layout_in}
use Rattle.layout.proofs.Kept.{made_ready}
use Rattle.layout.proofs.Readiness.{ready_walkable}
use Rattle.layout_kbm.specs.Parts.{entry_in}
use Rattle.layout_kbm.proofs.Calls.{entry_is}
use Rattle.layout_kbm.proofs.parts.put_entries.Goals as goal

pub first-key-requires : goal.first-key-requires
first-key-requires c = ready_walkable _ (made_ready c.args.prepared)

pub loop-number-init : goal.loop-number-init
loop-number-init c = (c.first-key.ensures.0, c.first-key.ensures.1, joined_start _ c.args.out.now c.args.at, refl)

pub is_natural-mapped-requires : goal.is_natural-mapped-requires
is_natural-mapped-requires c =
    (c.loop-number.invariant.0, omega (arith, c.loop-number.invariant.1, c.loop-number-test.true))

pub put_entry-place-requires : goal.put_entry-place-requires
put_entry-place-requires c =
    let lay = layout_in c.args.prepared in
    let w = c.loop-number.invariant in
    let mapped = rw w.1 at c.is_natural-mapped.ensures in
    let e = ap length (entry_is lay c.loop-number.number _ mapped) in
    let r = joined_room (entry_in lay) c.loop-number.number lay.octave c.loop-number-test.true w.2 c.requires in
    omega (arith, e, r)

pub next-key-requires : goal.next-key-requires
next-key-requires c =
    (ready_walkable _ (made_ready c.args.prepared), c.loop-number.invariant.0, omega (arith, c.loop-number.invariant.1, c.loop-number-test.true))

pub loop-number-preserved : goal.loop-number-preserved
loop-number-preserved c =
    let lay = layout_in c.args.prepared in
    let i = c.loop-number.invariant in
    let mapped = rw i.1 at c.is_natural-mapped.ensures in
    let w = wrote_as (entry_is lay c.loop-number.number _ mapped) c.put_entry-place.ensures in
    let on = c.next-key.ensures in
    (on.0, omega (arith, on.1, i.1), joined_step _ _ i.2 w, wrote_length w ∙ i.3)

pub shape_of-out : goal.shape_of-out
shape_of-out c = c.loop-number.invariant.3
