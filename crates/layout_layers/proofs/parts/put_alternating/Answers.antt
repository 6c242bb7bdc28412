use mathlib.Core.Path.{ap}
use native.Mathlib.Omega.{arith}
use Rattle.layout_layers.specs.Parts.{shown_as}
use Rattle.layout_layers.proofs.SpreadLaws.{spread_as, turns_none, turns_more, turns_room, turns_all}
use Rattle.layout_layers.proofs.PlanLaws.{layer_alternates, number_alternates, turn_within}
use Rattle.layout_layers.proofs.parts.put_alternating.Goals as goal

pub loop-turn-init : goal.loop-turn-init
loop-turn-init c =
    let plan = c.args.plan in
    turns_none plan.chain.num_cycles _ _

pub alternate-layer-requires : goal.alternate-layer-requires
alternate-layer-requires c =
    (c.args.plan.sound.some_letters, c.args.plan.sound.few_secondaries, c.args.plan.sound.near_offset, omega (arith, c.loop-turn-test.true, c.requires.2))

pub put_turn-requires : goal.put_turn-requires
put_turn-requires c =
    let loop = c.loop-turn in
    let plan = c.args.plan in (
      c.args.plan.sound.unbroken.some_cycles,
      turns_room plan.chain.num_cycles loop.turn c.args.turns c.loop-turn-test.true c.requires.3 loop.invariant.kept,
      (
        turn_within plan c.args.plan.sound loop.turn _ _ (layer_alternates plan loop.turn _ c.requires.1 c.alternate-layer.ensures) c.requires.0,
        turn_within plan c.args.plan.sound loop.turn _ _ (layer_alternates plan loop.turn _ c.requires.1 c.alternate-layer.ensures) plan.sound.layers_fit,
      ),
    )

pub loop-turn-preserved : goal.loop-turn-preserved
loop-turn-preserved c =
    let loop = c.loop-turn in
    let plan = c.args.plan in
    turns_more plan.chain.num_cycles _ loop.turn loop.invariant
    (spread_as (λ i t. ap (shown_as c.args.total) (number_alternates plan loop.turn _ i (layer_alternates plan loop.turn _ c.requires.1 c.alternate-layer.ensures) t)) c.put_turn.ensures)

pub returns : goal.returns
returns c =
    let plan = c.args.plan in
    turns_all plan.chain.num_cycles _ c.loop-turn.auto.turn-end c.loop-turn-test.false c.loop-turn.invariant
