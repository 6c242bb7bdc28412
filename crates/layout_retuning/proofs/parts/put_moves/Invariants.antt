-- What is stored is the table's front, which grows by an entry with each turn; the keys that are carried are the next entry's.
use mathlib.Core.Path.{◌≡◌}
use lib.ListN.{length}
use Rattle.text.specs.Writing.{Wrote}
use Rattle.layout_retuning.specs.Parts.{numbers_of, table_by, table_keys}
use Rattle.layout_retuning.proofs.parts.put_moves.Given as goal

abbrev pub invariant-loop-entry : goal.invariant-loop-entry
invariant-loop-entry l =
    Wrote l.initial.out 0 (table_by (numbers_of l.tunings) l.entry) l.out l.entry
    × (length l.out ≡ length l.initial.out)
    × (l.keys ≡ table_keys (numbers_of l.tunings) l.entry)
