-- The length of the planned name.
use lib.ListN.{length}
use lib.IntN.{pos}
use mathlib.Core.Path.{ap, ◌∙◌}
use Rattle.layout.specs.Parts.{layout_of}
use Rattle.layout.proofs.Calls.{text_planned}
use Rattle.layout.proofs.key_names.name_length.Goals as goal

pub returns : goal.returns
returns c =
    c.plan_length.ensures.length_is ∙ ap length (text_planned (layout_of c.args.key.found) (pos c.args.key.number) _ c.plan_one.ensures)
