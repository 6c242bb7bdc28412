-- What is written is the lines of the chains so far.
use Prim.Native.Nat.{◌*◌, ◌≤◌}
use mathlib.Core.Path.{◌≡◌}
use lib.ListN.{length}
use Rattle.text.specs.Writing.{Wrote, joined}
use Rattle.edo_counts.specs.Counts.{chain_line}
use Rattle.edo_counts.proofs.parts.put_report.Given as goal

abbrev pub invariant-loop-genchain : goal.invariant-loop-genchain
invariant-loop-genchain l =
    Wrote l.initial.out 0 (joined chain_line l.genchain) l.out l.place × (l.place ≤ 24 * l.genchain) × (length l.out ≡ length l.initial.out)
