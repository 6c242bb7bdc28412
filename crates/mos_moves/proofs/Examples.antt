-- The worked examples, by computation.
use mathlib.Core.Path.{refl}
use Rattle.mos.specs.Walks.{children}
use Rattle.mos_moves.specs.Moves.{genesis_moves, moves_with, pattern_moves}
use Rattle.mos_moves.specs.Answers.{genesis_table, nth_outcome, nth_table, get_walk_moves}
use Rattle.mos_moves.specs.Examples.{ExamplesHold}

pub examples_hold : ExamplesHold
unfolding genesis_table nth_outcome nth_table get_walk_moves moves_with pattern_moves genesis_moves children
examples_hold = record {
  twelve = refl;
  twelve_pattern = refl;
  twelve_found = refl;
  twelve_told = refl;
  twelve_walk = refl;
  above = refl;
  above_third = refl;
  furthest = refl;
  none_left = refl;
  no_pattern = refl;
  no_period = refl;
  no_walk = refl;
  table_kept = refl;
}
