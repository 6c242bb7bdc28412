use mathlib.Core.Path.{refl}
use native.Mathlib.Nat.{le_antisymm}
use native.Mathlib.Omega.{arith}
use lib.ListN.{length}
use Rattle.layout_layers.proofs.SpreadLaws.{block_single}
use Rattle.layout_layers.proofs.ChainLaws.{walk_none, walk_then, walk_one, walk_count, single_inside}
use Rattle.layout_layers.proofs.parts.put_single.Goals as goal

pub loop-init : goal.loop-init
loop-init c =
    walk_none c.args.chain c.requires.1.unbroken c.args.from _ _ c.requires.1.at

pub offset_bounds-out-spot : goal.offset_bounds-out-spot
offset_bounds-out-spot c =
    let loop = c.loop in
    let chain = c.args.chain in
    omega (arith, single_inside chain c.requires.1.unbroken loop.spot.turn (length loop.out) c.requires.0 loop.invariant.arrived.turn_below (omega (arith, c.requires.1.held, loop.invariant.spread.kept)))

pub bounds-out-spot : goal.bounds-out-spot
bounds-out-spot c =
    let loop = c.loop in
    let chain = c.args.chain in
    single_inside chain c.requires.1.unbroken loop.spot.turn (length loop.out) c.requires.0 loop.invariant.arrived.turn_below (omega (arith, c.requires.1.held, loop.invariant.spread.kept))

pub next_spot-spot-requires : goal.next_spot-spot-requires
next_spot-spot-requires c =
    let loop = c.loop in
    (c.requires.1.unbroken, loop.invariant.arrived, omega (arith, c.loop-test.true, loop.invariant.place_is, c.requires.1.on_chain))

pub loop-preserved : goal.loop-preserved
loop-preserved c =
    let loop = c.loop in
    let chain = c.args.chain in
    let u = c.requires.1.unbroken in
    let more = c.loop-test.true in
    let room = single_inside chain u loop.spot.turn (length loop.out) c.requires.0 loop.invariant.arrived.turn_below (omega (arith, c.requires.1.held, loop.invariant.spread.kept)) in
    walk_then chain u c.args.from loop.spot c.next_spot-spot.result _ loop.counter 1 loop.invariant
    (walk_one chain u loop.spot c.next_spot-spot.result _ loop.invariant.arrived (omega (arith, more, loop.invariant.place_is, c.requires.1.on_chain))
    (block_single chain.num_cycles loop.spot.turn (λ i. c.args.entry) c.args.entry loop.out c.requires.0 room refl)
    c.next_spot-spot.ensures)

pub returns : goal.returns
returns c =
    let loop = c.loop in
    walk_count c.args.chain c.requires.1.unbroken c.args.from loop.spot _ _ _ (le_antisymm loop.auto.counter-end c.loop-test.false) loop.invariant
