-- The worked examples hold by computation.
use mathlib.Core.Path.{refl}
use Rattle.layout_retuning.specs.Answers.{get_moved, get_move_table, get_largest_move}
use Rattle.layout_retuning.specs.Examples.{ExamplesHold}

pub examples_hold : ExamplesHold
unfolding get_moved get_move_table get_largest_move
examples_hold = record { moves = refl; table = refl; most = refl; no_tables = refl; none_largest = refl }
