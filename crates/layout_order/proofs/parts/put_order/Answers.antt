use Prim.Native.Nat.{ℕ}
use mathlib.Core.Path.{ap}
use native.Mathlib.Omega.{arith}
use lib.ListN.{get_or}
use Rattle.layout.proofs.Kept.{made_ready}
use Rattle.layout.proofs.Readiness.{ready_walkable}
use Rattle.layout_order.proofs.Carrying.{position_below, carry_start, carry_length, carry_on}
use Rattle.layout_order.proofs.parts.put_order.Goals as goal

pub first-key-requires : goal.first-key-requires
first-key-requires c = ready_walkable _ (made_ready c.args.prepared)

pub loop-init : goal.loop-init
loop-init c = carry_start _ _ _ _ _ c.first-key.ensures

pub position_of-from-requires : goal.position_of-from-requires
position_of-from-requires c = c.loop.invariant.at

pub position_of-to-requires : goal.position_of-to-requires
position_of-to-requires c = c.loop.invariant.at

pub offset_bounds-entries-from : goal.offset_bounds-entries-from
offset_bounds-entries-from c =
    let ready = made_ready c.args.prepared in
    omega (arith, position_below _ ready _ _ (omega (arith, c.loop-test.true, c.loop.invariant.number_is)) c.position_of-from.ensures)

pub bounds-entries-from : goal.bounds-entries-from
bounds-entries-from c =
    let ready = made_ready c.args.prepared in
    omega (arith, position_below _ ready _ _ (omega (arith, c.loop-test.true, c.loop.invariant.number_is)) c.position_of-from.ensures, c.requires.0)

pub offset_bounds-out-to : goal.offset_bounds-out-to
offset_bounds-out-to c =
    let ready = made_ready c.args.prepared in
    omega (arith, position_below _ ready _ _ (omega (arith, c.loop-test.true, c.loop.invariant.number_is)) c.position_of-to.ensures)

pub bounds-out-to : goal.bounds-out-to
bounds-out-to c =
    let ready = made_ready c.args.prepared in
    let below = position_below _ ready _ _ (omega (arith, c.loop-test.true, c.loop.invariant.number_is)) c.position_of-to.ensures in
    omega (arith, below, carry_length _ _ _ _ c.loop.invariant, c.requires.1)

pub next-key-requires : goal.next-key-requires
next-key-requires c =
    let ready = made_ready c.args.prepared in
    (ready_walkable _ ready, c.loop.invariant.at, omega (arith, c.loop.invariant.number_is, c.loop-test.true))

pub loop-preserved : goal.loop-preserved
loop-preserved c =
    let from = rw c.other.ensures at c.position_of-from.ensures in
    carry_on _ _ _ _ c.loop.invariant c.position_of-to.ensures
    (ap (λ (i : ℕ). get_or c.args.entries.now i 0) from) c.next-key.ensures

pub shape_of-out : goal.shape_of-out
shape_of-out c = carry_length _ _ _ _ c.loop.invariant
