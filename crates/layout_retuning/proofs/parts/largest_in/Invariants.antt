-- The largest of the table's front, which grows by an entry with each turn; the keys that are carried are the next entry's.
use mathlib.Core.Path.{◌≡◌}
use Rattle.layout_retuning.specs.Retunings.{largest}
use Rattle.layout_retuning.specs.Parts.{numbers_of, table_by, table_keys}
use Rattle.layout_retuning.proofs.parts.largest_in.Given as goal

abbrev pub invariant-loop-entry : goal.invariant-loop-entry
invariant-loop-entry l =
    (l.most ≡ largest (table_by (numbers_of l.tunings) l.entry)) × (l.keys ≡ table_keys (numbers_of l.tunings) l.entry)
