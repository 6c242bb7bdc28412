-- Question 10, then the planned name.
use lib.ListN.{length}
use lib.IntN.{pos}
use mathlib.Core.Path.{ap}
use Rattle.answer.specs.Lent.{held_in}
use Rattle.layout.specs.Parts.{layout_of}
use Rattle.layout.proofs.Calls.{text_planned, filled_as}
use Rattle.layout.proofs.key_names.write_name.Goals as goal

pub write_planned-requires : goal.write_planned-requires
write_planned-requires c = c.plan_one.ensures.short

pub returns : goal.returns
returns c =
    filled_as (ap (held_in (length c.args.out.now)) (text_planned (layout_of c.args.key.found) (pos c.args.key.number) _ c.plan_one.ensures))
    c.write_planned.ensures
