-- What is stored is a run that grows by one with each turn.
use Prim.Native.Nat.{◌+◌, ◌-◌}
use mathlib.Core.Path.{◌≡◌}
use lib.ListN.{length}
use Rattle.text.specs.Writing.{Wrote}
use Rattle.math.specs.Passing.{run}
use Rattle.layout_reach.proofs.parts.put_run.Given as goal

abbrev pub invariant-loop-key : goal.invariant-loop-key
invariant-loop-key l =
    Wrote l.initial.out l.at (run l.from (l.key - l.from)) l.out (l.at + (l.key - l.from)) × (length l.out ≡ length l.initial.out)
