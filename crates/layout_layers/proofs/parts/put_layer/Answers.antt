use mathlib.Core.Path.{ap, ◌∙◌}
use native.Mathlib.Nat.{le_antisymm}
use native.Mathlib.Omega.{arith}
use Rattle.layout_layers.specs.Parts.{shown_as, limit}
use Rattle.layout_layers.proofs.ChainLaws.{walk_none, walk_then, walk_one, walk_count, walk_as, turn_room, layer_fits}
use Rattle.layout_layers.proofs.SpreadLaws.{single_number}
use Rattle.layout_layers.proofs.parts.put_layer.Goals as goal

pub shown-entry-requires : goal.shown-entry-requires
shown-entry-requires c =
    layer_fits c.args.layer c.args.chain.num_cycles (limit c.args.total) c.requires.0.unbroken.some_cycles c.requires.1.0

pub returns-then-chain-eq1 : goal.returns-then-chain-eq1
returns-then-chain-eq1 c =
    let chain = c.args.chain in
    let one = c.if-chain-eq1.true in
    walk_as chain c.requires.0.unbroken c.args.from c.put_single.result (λ i. c.shown-entry.result) _ c.args.size
    (λ i t. c.shown-entry.ensures ∙ ap (shown_as c.args.total) (single_number chain.num_cycles c.args.layer i one))
    c.put_single.ensures

pub loop-init : goal.loop-init
loop-init c =
    walk_none c.args.chain c.requires.0.unbroken c.args.from _ _ c.requires.0.at

pub put_turn-requires : goal.put_turn-requires
put_turn-requires c =
    let loop = c.loop in
    let u = c.requires.0.unbroken in (
      u.some_cycles,
      turn_room c.args.chain u loop.spot.turn loop.invariant.arrived.turn_below (omega (arith, c.requires.0.held, loop.invariant.spread.kept)),
      c.requires.1,
    )

pub next_spot-spot-requires : goal.next_spot-spot-requires
next_spot-spot-requires c =
    let loop = c.loop in
    (c.requires.0.unbroken, loop.invariant.arrived, omega (arith, c.loop-test.true, loop.invariant.place_is, c.requires.0.on_chain))

pub loop-preserved : goal.loop-preserved
loop-preserved c =
    let loop = c.loop in
    let chain = c.args.chain in
    let u = c.requires.0.unbroken in
    let more = c.loop-test.true in
    walk_then chain u c.args.from loop.spot c.next_spot-spot.result _ loop.counter 1 loop.invariant
    (walk_one chain u loop.spot c.next_spot-spot.result _ loop.invariant.arrived (omega (arith, more, loop.invariant.place_is, c.requires.0.on_chain)) c.put_turn.ensures c.next_spot-spot.ensures)

pub returns : goal.returns
returns c =
    let loop = c.loop in
    walk_count c.args.chain c.requires.0.unbroken c.args.from loop.spot _ _ _ (le_antisymm loop.auto.counter-end c.loop-test.false) loop.invariant
