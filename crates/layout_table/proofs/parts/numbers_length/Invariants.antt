-- The numbers of the lines below this one are measured, and the key that is carried has this number.
use Prim.Native.Nat.{◌*◌, ◌≤◌}
use mathlib.Core.Path.{◌≡◌}
use lib.ListN.{length}
use Rattle.text.specs.Writing.{joined}
use Rattle.pergen.specs.Parts.{At}
use Rattle.layout.specs.Parts.{layout_in}
use Rattle.layout_table.specs.Parts.{numbers_in}
use Rattle.layout_table.proofs.parts.numbers_length.Given as goal

abbrev pub invariant-loop-number : goal.invariant-loop-number
invariant-loop-number l =
    At l.prepared.solved l.key
    × (l.key.number ≡ l.number)
    × (l.total ≡ length (joined (numbers_in (layout_in l.prepared)) l.number))
    × (l.total ≤ 13 * l.number)
