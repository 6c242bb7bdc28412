-- The worked examples hold by computation.
use mathlib.Core.Path.{refl}
use Rattle.edo_layouts.specs.Layouts.{chain_outcome, find_by_edo}
use Rattle.edo_layouts.specs.Examples.{ExamplesHold}

pub examples_hold : ExamplesHold
unfolding chain_outcome find_by_edo
examples_hold = record { chains = refl; lists = refl }
