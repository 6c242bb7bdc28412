-- The entries of the keys below the number are written, and the key that is carried has this number.
use mathlib.Core.Path.{◌≡◌}
use lib.ListN.{length}
use Rattle.text.specs.Writing.{Wrote, joined}
use Rattle.pergen.specs.Parts.{At}
use Rattle.layout.specs.Parts.{layout_in}
use Rattle.layout_kbm.specs.Parts.{entry_in}
use Rattle.layout_kbm.proofs.parts.put_entries.Given as goal

abbrev pub invariant-loop-number : goal.invariant-loop-number
invariant-loop-number l =
    At l.prepared.solved l.key
    × (l.key.number ≡ l.number)
    × Wrote l.initial.out l.at (joined (entry_in (layout_in l.prepared)) l.number) l.out l.place
    × (length l.out ≡ length l.initial.out)
