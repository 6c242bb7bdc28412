-- The worked examples hold by computation.
use mathlib.Core.Path.{refl}
use Rattle.edo_counts.specs.Counts.{all_layouts, tally_of, report_line}
use Rattle.edo_counts.specs.Examples.{ExamplesHold}

pub examples_hold : ExamplesHold
unfolding all_layouts tally_of report_line
examples_hold = record { tallies = refl; line = refl }
