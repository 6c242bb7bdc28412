use Prim.Native.Nat.{ℕ, ◌*◌}
use mathlib.Core.Path.{ap}
use native.Mathlib.Nat.{le_antisymm}
use native.Mathlib.Omega.{arith}
use lib.ListN.{replicate}
use Rattle.mos_layers.proofs.Cursors.{laid_none, laid_empty, laid_one, laid_more, laid_as, laid_length, space_after, space_run, one_more}
use Rattle.mos_layers.proofs.parts.put_layers.Goals as goal

pub returns-then-size-eq0 : goal.returns-then-size-eq0
returns-then-size-eq0 c =
    laid_empty c.args.times c.args.size _ _ c.if-size-eq0.true

pub loop-init : goal.loop-init
loop-init c = laid_none _ _

pub put_run-end-requires : goal.put_run-end-requires
put_run-end-requires c = space_run (space_after (c.args.times * c.args.size) c.args.size c.requires c.loop.invariant (one_more c.loop.counter c.args.times c.args.size c.loop-test.true))

pub overflow_add-next : goal.overflow_add-next
overflow_add-next c =
    let room = space_after (c.args.times * c.args.size) c.args.size c.requires c.loop.invariant (one_more c.loop.counter c.args.times c.args.size c.loop-test.true) in
    omega (arith, c.if-size-eq0.false, room.small, room.low)

pub loop-preserved : goal.loop-preserved
loop-preserved c =
    let loop = c.loop in
    let some = c.if-size-eq0.false in
    laid_more loop.counter c.args.size loop.invariant (laid_one c.args.size some c.put_run-end.ensures)

pub shape_of-out : goal.shape_of-out
shape_of-out c = laid_length c.loop.invariant

pub returns : goal.returns
returns c =
    laid_as (ap (λ (n : ℕ). replicate n c.args.size) (le_antisymm c.loop.auto.counter-end c.loop-test.false))
    c.loop.invariant
