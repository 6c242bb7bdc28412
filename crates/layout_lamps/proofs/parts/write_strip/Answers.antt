-- Question 10, then the strip of all entries.
use mathlib.Core.Path.{◌∙◌}
use native.Mathlib.Omega.{arith}
use Rattle.layout_layers.specs.Parts.{total_of}
use Rattle.layout_layers.proofs.PlanLaws.{counts_entries}
use Rattle.layout_layers.proofs.Calls.{text_too_long, text_held}
use Rattle.layout_lamps.specs.Parts.{plan_strip}
use Rattle.layout_lamps.proofs.StripLaws.{length_strip}
use Rattle.layout_lamps.proofs.parts.write_strip.Goals as goal

pub returns-then-out-count : goal.returns-then-out-count
returns-then-out-count c =
    text_too_long (plan_strip c.args.plan (total_of c.args.plan)) _ _ (counts_entries c.args.plan c.entries-count.ensures ∙ length_strip c.args.plan (total_of c.args.plan)) c.if-out-count.true

pub put_strip-requires : goal.put_strip-requires
put_strip-requires c = omega (arith, counts_entries c.args.plan c.entries-count.ensures, c.if-out-count.false)

pub returns : goal.returns
returns c =
    let plan = c.args.plan in
    text_held (plan_strip plan (total_of plan)) _ _ (counts_entries plan c.entries-count.ensures ∙ length_strip plan (total_of plan)) c.if-out-count.false c.put_strip.ensures
