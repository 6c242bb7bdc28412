-- What is written is the lines of the chains so far.
use Prim.Native.Nat.{◌*◌, ◌≤◌}
use mathlib.Core.Path.{◌≡◌}
use lib.ListN.{length}
use Rattle.text.specs.Writing.{Wrote, joined}
use Rattle.edo_lines.specs.Parts.{served_line}
use Rattle.edo_lines.proofs.put_chains.Given as goal

abbrev pub invariant-loop-genchain : goal.invariant-loop-genchain
invariant-loop-genchain l =
    Wrote l.initial.out 0 (joined (served_line l.n l.choices) l.genchain) l.out l.place × (l.place ≤ 44 * l.genchain) × (length l.out ≡ length l.initial.out)
