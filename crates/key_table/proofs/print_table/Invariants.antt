-- After each turn the lines of the keys before `from` were handed over.
use Prim.Native.Nat.{◌-◌, ◌≤◌}
use mathlib.Core.Path.{◌≡◌}
use lib.ListN.{length}
use Rattle.text.specs.Writing.{joined}
use Rattle.layout.specs.Parts.{layout_in}
use Rattle.layout_table.specs.Tables.{line_in}
use Rattle.streams.specs.Streams.{Handed}
use Rattle.key_table.proofs.print_table.Given as goal

abbrev pub invariant-loop-from : goal.invariant-loop-from
invariant-loop-from l =
    Handed (joined (line_in (layout_in l.prepared)) l.from) l.done × (l.from ≤ l.prepared.found.octave) × (length l.out ≡ length l.initial.out)

abbrev pub decreases-loop-from : goal.decreases-loop-from
decreases-loop-from l = l.prepared.found.octave - l.from
