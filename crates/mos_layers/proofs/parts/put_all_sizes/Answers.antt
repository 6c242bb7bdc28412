use Prim.Native.Nat.{ℕ}
use mathlib.Core.Path.{◌≡◌, sym, ap, subst, ◌∙◌}
use native.Mathlib.Nat.{le_antisymm, zero-add}
use native.Mathlib.Omega.{arith}
use Rattle.text.specs.Writing.{Room, Wrote, joined}
use Rattle.text.proofs.Writing.{wrote_as, wrote_length}
use Rattle.text.proofs.Joined.{joined_start, joined_step, joined_room}
use Rattle.mos_layers.specs.Layers.{drop_empty}
use Rattle.mos_layers.specs.Parts.{run_at}
use Rattle.mos_layers.proofs.Sizes.{drop_joined}
use Rattle.mos_layers.proofs.parts.put_all_sizes.Invariants.{written}
use Rattle.mos_layers.proofs.parts.put_all_sizes.Goals as goal

pub loop-i-init : goal.loop-i-init
loop-i-init c =
    let runs = c.args.runs in
    joined_start (written runs.sizes runs.times) _ 0

pub put_sizes-at-requires : goal.put_sizes-at-requires
put_sizes-at-requires c =
    let runs = c.args.runs in
    joined_room (written runs.sizes runs.times) c.loop-i.i 8 (omega arith) c.loop-i.invariant
    (subst (Room c.args.out.now 0) (drop_joined (run_at runs.sizes runs.times) 8) c.requires)

pub loop-i-preserved : goal.loop-i-preserved
loop-i-preserved c =
    let loop = c.loop-i in
    let runs = c.args.runs in
    joined_step (written runs.sizes runs.times) loop.i loop.invariant c.put_sizes-at.ensures

pub shape_of-out : goal.shape_of-out
shape_of-out c = wrote_length c.loop-i.invariant

pub returns : goal.returns
returns c =
    let runs = c.args.runs in
    let all : joined (written runs.sizes runs.times) c.loop-i.i ≡ drop_empty (joined (run_at runs.sizes runs.times) 8)
    = ap (joined (written runs.sizes runs.times)) (le_antisymm c.loop-i.auto.i-end c.loop-i-test.false)
    ∙ sym (drop_joined (run_at runs.sizes runs.times) 8) in
    let done = wrote_as all c.loop-i.invariant in
    subst (λ (n : ℕ). Wrote c.args.out.now 0 (drop_empty (joined (run_at runs.sizes runs.times) 8)) c.loop-i.out n)
    (done.end ∙ zero-add _)
    done
