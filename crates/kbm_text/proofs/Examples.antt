-- The worked examples hold by computation.
use mathlib.Core.Path.{refl}
use Rattle.kbm_text.specs.Reading.{read_outcome}
use Rattle.kbm_text.specs.Written.{kbm_text}
use Rattle.kbm_text.specs.Examples.{ExamplesHold}

pub examples_hold : ExamplesHold
unfolding read_outcome kbm_text
examples_hold = record { outcomes = refl; written = refl }
