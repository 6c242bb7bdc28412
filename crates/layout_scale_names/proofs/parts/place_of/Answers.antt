-- What the comparison says of the two steps.
use Rattle.std.proofs.Common.{Less, Equal, Greater}
use Rattle.std.proofs.lemmas.Cmp.{ranked}
use Rattle.layout_scale_names.proofs.ScalePlaces.{place_above_lem, place_below, place_equal}
use Rattle.layout_scale_names.proofs.parts.place_of.Goals as goal

pub returns-in-Greater : goal.returns-in-Greater
returns-in-Greater c = place_above_lem _ _ c.requires (ranked _ _ Greater c.in-Greater.ensures)

pub returns-in-Less : goal.returns-in-Less
returns-in-Less c = place_below _ _ c.requires (ranked _ _ Less c.in-Less.ensures)

pub returns-in-Equal : goal.returns-in-Equal
returns-in-Equal c = place_equal _ _ c.requires (ranked _ _ Equal c.in-Equal.ensures)
