-- Up to a place so many copies stand from `at` on.
use Prim.Native.Nat.{◌-◌}
use lib.ListN.{replicate}
use Rattle.text.specs.Writing.{Wrote}
use Rattle.text.proofs.writer.put_run.Given as goal

abbrev pub invariant-loop-place : goal.invariant-loop-place
invariant-loop-place g l = Wrote l.initial.out l.at (replicate (l.place - l.at) l.element) l.out l.place
