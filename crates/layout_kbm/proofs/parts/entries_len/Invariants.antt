-- The entries of the keys below the number are measured, and the key that is carried has this number.
use Prim.Native.Nat.{◌*◌}
use mathlib.Core.Path.{◌≡◌}
use Rattle.text.specs.Writing.{joined}
use Rattle.pergen.specs.Parts.{At}
use Rattle.kbm_text.specs.Parts.{LengthUpTo}
use Rattle.layout.specs.Parts.{layout_in}
use Rattle.layout_kbm.specs.Parts.{entry_in}
use Rattle.layout_kbm.proofs.parts.entries_len.Given as goal

abbrev pub invariant-loop-number : goal.invariant-loop-number
invariant-loop-number l =
    At l.prepared.solved l.key
    × (l.key.number ≡ l.number)
    × LengthUpTo (6 * l.number) (joined (entry_in (layout_in l.prepared)) l.number) l.total
