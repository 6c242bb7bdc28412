-- The number of the key's layer is 0.
use Rattle.layout.specs.Parts.{layout_in}
use Rattle.layout_kbm.proofs.Calls.{natural_by}
use Rattle.layout_kbm.proofs.parts.is_natural.Goals as goal

pub returns : goal.returns
returns c = natural_by (layout_in c.args.prepared) _ _ c.number_of.ensures
