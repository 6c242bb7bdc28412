-- After i turns the layers of the first i runs are counted; a run has at most 65,535.
use Prim.Native.Nat.{◌*◌, ◌≤◌}
use mathlib.Core.Path.{◌≡◌}
use lib.ListN.{length}
use Rattle.text.specs.Writing.{joined}
use Rattle.mos_layers.specs.Layers.{drop_empty}
use Rattle.mos_layers.specs.Parts.{run_at}
use Rattle.mos_layers.proofs.parts.count_sizes.Given as goal

abbrev pub invariant-loop-i : goal.invariant-loop-i
invariant-loop-i l =
    (l.count ≡ length (drop_empty (joined (run_at l.sizes l.times) l.i))) × (l.count ≤ 65535 * l.i)
