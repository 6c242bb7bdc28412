-- The worked examples, by computation.
use mathlib.Core.Path.{refl}
use Rattle.layout_moves.specs.Answers.{get_moves, get_move_numbers}
use Rattle.layout_moves.specs.Examples.{ExamplesHold}

pub examples_hold : ExamplesHold
unfolding get_moves get_move_numbers
examples_hold = record { tables = refl; numbers = refl; no_numbers = refl }
