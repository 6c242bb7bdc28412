-- After k layers their places are walked.
use Prim.Native.Nat.{◌*◌}
use Rattle.layout_layers.specs.Parts.{Walk, run_number, shown_as}
use Rattle.layout_layers.proofs.parts.put_run.Given as goal

abbrev pub invariant-loop-k : goal.invariant-loop-k
invariant-loop-k l =
    Walk l.chain l.initial.spot l.spot (l.k * l.size) (λ i. shown_as l.total (run_number l.chain l.initial.spot.place l.size l.first i)) l.initial.out l.out
