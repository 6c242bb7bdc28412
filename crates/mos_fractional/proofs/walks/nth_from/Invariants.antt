-- The pattern that is wanted is so many children on from the one at hand; with each child one fewer.
use Rattle.std.specs.Prelude.{slice_get}
use Prim.Native.Nat.{◌-◌}
use mathlib.Core.Path.{◌≡◌}
use Rattle.mos_fractional.specs.Walk.{children}
use Rattle.mos_fractional.specs.Parts.{Growing}
use Rattle.mos_fractional.proofs.walks.nth_from.Given as goal

abbrev pub invariant-loop : goal.invariant-loop
invariant-loop l = Growing l.here × (slice_get (children l.here) (l.k - l.counter) ≡ slice_get (children l.initial.here) l.k)
