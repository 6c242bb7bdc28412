-- The number, or its code.
use mathlib.Core.Path.{refl}
use Rattle.layout_layers.specs.Parts.{shown_as}
use Rattle.layout_layers.proofs.parts.shown.Goals as goal

pub returns-in-Some : goal.returns-in-Some
unfolding shown_as
returns-in-Some c = rw c.in-Some.is c.code.ensures

pub returns-in-None : goal.returns-in-None
unfolding shown_as
returns-in-None c = rw c.in-None.is refl
