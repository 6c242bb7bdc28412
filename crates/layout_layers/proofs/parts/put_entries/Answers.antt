-- In turn where the scale is equalized, along the chain where it is not.
use mathlib.Core.Path.{ap}
use native.Mathlib.Omega.{arith}
use Rattle.layout_layers.specs.Parts.{shown_as}
use Rattle.layout_layers.proofs.SpreadLaws.{spread_as}
use Rattle.layout_layers.proofs.PlanLaws.{length_plan, turns_single, number_listed, entries_front}
use Rattle.layout_layers.proofs.parts.put_entries.Goals as goal

pub put_alternating-requires : goal.put_alternating-requires
put_alternating-requires c = (
  c.requires.0,
  c.if-plan.true,
  c.turns_of.ensures.1,
  omega (arith, length_plan c.args.plan c.turns_of.ensures.0, c.requires.1),
)

pub returns-then-plan : goal.returns-then-plan
returns-then-plan c =
    entries_front c.args.plan c.args.plan.sound _ _ c.turns_of.ensures.0 c.requires.1 c.put_alternating.ensures

pub put_chain-requires : goal.put_chain-requires
put_chain-requires c =
    let other = c.if-plan.false in (
      c.requires.0,
      other,
      omega (arith, length_plan c.args.plan (turns_single c.args.plan other), c.requires.1),
    )

pub returns : goal.returns
returns c =
    let plan = c.args.plan in
    let other = c.if-plan.false in
    entries_front plan c.args.plan.sound _ _ (turns_single plan other) c.requires.1 (spread_as (λ i t. ap (shown_as c.args.total) (number_listed plan other i)) c.put_chain.ensures)
