-- What was counted and what still comes make up the whole walk; the counts' sum grows with each child, and bounds it.
use mathlib.Core.Path.{◌≡◌}
use Prim.Native.Nat.{◌+◌, ◌<◌}
use lib.ListN.{length}
use Rattle.mos_fractional.specs.Fractional.{count_of}
use Rattle.mos_fractional.specs.Walk.{children}
use Rattle.mos_fractional.specs.Parts.{Growing}
use Rattle.mos_fractional.proofs.Walking.{left}
use Rattle.mos_fractional.proofs.walks.count_from.Given as goal

abbrev pub invariant-loop-child : goal.invariant-loop-child
invariant-loop-child l =
    Growing l.here × (l.count + length (children l.here) ≡ l.initial.count + length (children l.initial.here)) × (l.count < count_of l.here)

abbrev pub decreases-loop-child : goal.decreases-loop-child
decreases-loop-child l = left l.here
