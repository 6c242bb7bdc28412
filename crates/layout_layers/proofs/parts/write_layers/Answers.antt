-- Question 10, then all entries.
use native.Mathlib.Omega.{arith}
use Rattle.layout_layers.specs.Parts.{plan_layers}
use Rattle.layout_layers.proofs.LampCodeLaws.{numbers_front}
use Rattle.layout_layers.proofs.PlanLaws.{counts_entries}
use Rattle.layout_layers.proofs.Calls.{text_too_long, text_held}
use Rattle.layout_layers.proofs.parts.write_layers.Goals as goal

pub returns-then-out-count : goal.returns-then-out-count
returns-then-out-count c = text_too_long (plan_layers c.args.plan) _ _ (counts_entries c.args.plan c.entries-count.ensures) c.if-out-count.true

pub put_entries-requires : goal.put_entries-requires
put_entries-requires c =
    (c.args.plan.sound.layers_fit, omega (arith, (counts_entries c.args.plan c.entries-count.ensures), c.if-out-count.false))

pub returns : goal.returns
returns c =
    text_held (plan_layers c.args.plan) _ _ (counts_entries c.args.plan c.entries-count.ensures) c.if-out-count.false
    (numbers_front c.args.plan c.args.out.now _ c.put_entries.ensures)
