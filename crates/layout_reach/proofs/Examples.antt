-- The worked examples hold by computation.
use mathlib.Core.Path.{refl}
use Rattle.layout_reach.specs.Reach.{keys_of}
use Rattle.layout_reach.specs.Answers.{get_nearest, get_reach}
use Rattle.layout_reach.specs.Examples.{ExamplesHold}

pub examples_hold : ExamplesHold
unfolding get_nearest get_reach keys_of
examples_hold = record { nearests = refl; reaches = refl; one_d = refl; two_ds = refl; three_bs = refl }
