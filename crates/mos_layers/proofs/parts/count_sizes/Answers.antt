use mathlib.Core.Path.{ap, ◌∙◌}
use native.Mathlib.Nat.{le_antisymm}
use native.Mathlib.Omega.{arith}
use lib.ListN.{length}
use Prim.Native.Nat.{ℕ}
use Rattle.text.specs.Writing.{joined}
use Rattle.mos_layers.specs.Layers.{drop_empty}
use Rattle.mos_layers.specs.Parts.{run_at}
use Rattle.mos_layers.proofs.Sizes.{count_none, count_more}
use Rattle.mos_layers.proofs.parts.count_sizes.Goals as goal

pub loop-i-init : goal.loop-i-init
loop-i-init c =
    let runs = c.args.runs in
    (count_none (run_at runs.sizes runs.times), omega arith)

pub overflow_add-count : goal.overflow_add-count
overflow_add-count c = omega arith

pub loop-i-preserved : goal.loop-i-preserved
loop-i-preserved c =
    let runs = c.args.runs in
    let loop = c.loop-i in (
      count_more (run_at runs.sizes runs.times) loop.i loop.invariant.0 c.count_run-count.ensures.0,
      omega arith,
    )

pub returns : goal.returns
returns c =
    let runs = c.args.runs in
    c.loop-i.invariant.0
    ∙ ap (λ (n : ℕ). length (drop_empty (joined (run_at runs.sizes runs.times) n))) (le_antisymm c.loop-i.auto.i-end c.loop-i-test.false)
