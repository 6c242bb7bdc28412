-- By computing both sides.
use mathlib.Core.Path.{refl}
use Rattle.layout.specs.Layouts.{layout_outcome}
use Rattle.layout_kbm.specs.Mappings.{natural_keys, get_kbm, get_mapped_keys}
use Rattle.layout_kbm.specs.Examples.{ExamplesHold}

pub examples_hold : ExamplesHold
unfolding layout_outcome natural_keys get_kbm get_mapped_keys
examples_hold = record { written = refl; read = refl; natural = refl; not_written = refl }
