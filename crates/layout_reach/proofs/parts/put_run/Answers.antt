use Prim.Native.Nat.{◌-◌}
use mathlib.Core.Path.{refl}
use lib.ListN.{length-set}
use native.Mathlib.Omega.{arith}
use Rattle.math.proofs.Passing.{length_run}
use Rattle.layout_reach.proofs.Spans.{run_start, run_step}
use Rattle.layout_reach.proofs.parts.put_run.Goals as goal

pub loop-key-init : goal.loop-key-init
loop-key-init c = (run_start _ _ _, refl)

pub bounds-out-at : goal.bounds-out-at
bounds-out-at c = omega (arith, length_run c.args.from (c.args.to - c.args.from))

pub loop-key-preserved : goal.loop-key-preserved
loop-key-preserved c = (run_step _ _ c.loop-key.auto.key c.loop-key.invariant.0, simp length-set (omega arith))
