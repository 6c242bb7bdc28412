-- The lines below this one are written, and the key that is carried has this number.
use Prim.Native.Nat.{◌-◌}
use mathlib.Core.Path.{◌≡◌}
use lib.ListN.{length}
use Rattle.text.specs.Writing.{Wrote, joined}
use Rattle.pergen.specs.Parts.{At}
use Rattle.layout.specs.Parts.{layout_in}
use Rattle.layout_table.specs.Parts.{line_from}
use Rattle.layout_table.proofs.parts.put_lines.Given as goal

abbrev pub invariant-loop-number : goal.invariant-loop-number
invariant-loop-number l =
    At l.prepared.solved l.key
    × (l.key.number ≡ l.number)
    × Wrote l.initial.out 0 (joined (line_from (layout_in l.prepared) l.from) (l.number - l.from)) l.out l.place
    × (length l.out ≡ length l.initial.out)
