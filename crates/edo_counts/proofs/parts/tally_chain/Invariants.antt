-- After each turn the divisions so far are counted.
use mathlib.Core.Path.{◌≡◌}
use Rattle.edo_counts.specs.Counts.{all_layouts, tally_of}
use Rattle.edo_counts.proofs.parts.tally_chain.Given as goal

abbrev pub invariant-loop-before : goal.invariant-loop-before
invariant-loop-before l = l.tally ≡ tally_of l.genchain (all_layouts l.before)
