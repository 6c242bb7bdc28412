-- The worked examples hold by computation.
use mathlib.Core.Path.{refl}
use Rattle.mos.specs.Patterns.{is_pattern, child_of, parent_of, cycles_of, reduced_size_of}
use Rattle.mos.specs.Walks.{children, parents, genesis_of}
use Rattle.mos.specs.Answers.{of_pattern, genesis_outcome, coprime_outcome, listing_outcome}
use Rattle.mos.specs.Scale.{place_above, interval}
use Rattle.mos.specs.Examples.{ExamplesHold}

pub examples_hold : ExamplesHold
unfolding is_pattern child_of parent_of cycles_of reduced_size_of children parents genesis_of of_pattern genesis_outcome coprime_outcome listing_outcome place_above interval
examples_hold = record {
  searches = refl;
  child = refl;
  parent = refl;
  genesis_of_lem = refl;
  dual = refl;
  mirror = refl;
  sharpness = refl;
  cycles = refl;
  reduced = refl;
  fits = refl;
  coprimes = refl;
  keys = refl;
  walk = refl;
  walk_back = refl;
  listing = refl;
  no_room = refl;
  reduced_generator = refl;
  no_period = refl;
  no_pattern = refl;
  diatonic = refl;
  pitches = refl;
  classes = refl;
  one_size = refl;
}
