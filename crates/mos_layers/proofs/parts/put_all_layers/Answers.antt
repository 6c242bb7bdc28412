use Prim.Native.Nat.{ℕ}
use mathlib.Core.Path.{ap, subst, ◌∙◌}
use native.Mathlib.Nat.{le_antisymm, zero-add}
use native.Mathlib.Omega.{arith}
use lib.ListN.{get_or}
use Rattle.text.specs.Writing.{Wrote, joined}
use Rattle.mos_layers.specs.Layers.{drop_empty, numbered}
use Rattle.mos_layers.specs.Parts.{run_at}
use Rattle.mos_layers.proofs.Sizes.{sum_replicate}
use Rattle.mos_layers.proofs.Cursors.{all_start, all_more, all_space, laid_as, laid_length, laid_place}
use Rattle.mos_layers.proofs.parts.put_all_layers.Goals as goal

pub loop-i-init : goal.loop-i-init
loop-i-init c =
    let runs = c.args.runs in
    all_start (run_at runs.sizes runs.times) _ _

pub put_layers-c-requires : goal.put_layers-c-requires
put_layers-c-requires c =
    let runs = c.args.runs in
    let i = c.loop-i.i in
    all_space (run_at runs.sizes runs.times) i 8 c.loop-i-test.true _
    (sum_replicate (get_or runs.times i 0) (get_or runs.sizes i 0))
    (record { fits = omega (arith, c.requires.1); small = omega (arith, c.requires.0); low = omega arith })
    c.loop-i.invariant

pub loop-i-preserved : goal.loop-i-preserved
loop-i-preserved c =
    let loop = c.loop-i in
    let runs = c.args.runs in
    all_more (run_at runs.sizes runs.times) loop.i loop.invariant c.put_layers-c.ensures

pub shape_of-out : goal.shape_of-out
shape_of-out c = laid_length c.loop-i.invariant

pub returns : goal.returns
returns c =
    let runs = c.args.runs in
    let done = laid_as (ap (joined (run_at runs.sizes runs.times)) (le_antisymm c.loop-i.auto.i-end c.loop-i-test.false)) c.loop-i.invariant in
    subst (λ (n : ℕ). Wrote c.args.out.now 0 (numbered 0 (drop_empty (joined (run_at runs.sizes runs.times) 8))) c.loop-i.out n)
    (laid_place done ∙ zero-add _)
    done.wrote
