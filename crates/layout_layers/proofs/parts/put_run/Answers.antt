use Prim.Native.Nat.{ℕ, ◌+◌, ◌*◌}
use mathlib.Core.Path.{ap}
use native.Mathlib.Nat.{le_antisymm}
use native.Mathlib.Omega.{arith}
use Rattle.layout_layers.specs.Parts.{shown_as, limit}
use Rattle.layout_layers.proofs.ChainLaws.{run_empty, run_start, run_more, run_room, run_fits, layer_fits, walk_count, ahead_part}
use Rattle.layout_layers.proofs.parts.put_run.Goals as goal

pub returns-then-size-eq0 : goal.returns-then-size-eq0
returns-then-size-eq0 c =
    run_empty c.args.chain c.requires.0.unbroken c.args.from _ c.args.times c.args.size _ c.if-size-eq0.true c.requires.0.at

pub loop-k-init : goal.loop-k-init
loop-k-init c =
    run_start c.args.chain c.requires.0.unbroken c.args.from _ c.args.size _ c.requires.0.at

pub overflow_add-first : goal.overflow_add-first
overflow_add-first c =
    let loop = c.loop-k in
    let n = c.args.chain.num_cycles in
    omega (arith, layer_fits (c.args.first + loop.k) n 65535 c.requires.0.unbroken.some_cycles (run_fits c.args.first c.args.times c.args.size loop.k n 65535 c.if-size-eq0.false c.loop-k-test.true c.requires.1.1))

pub put_layer-spot-requires : goal.put_layer-spot-requires
put_layer-spot-requires c =
    let loop = c.loop-k in
    let n = c.args.chain.num_cycles in (
      ahead_part c.args.chain c.requires.0.unbroken c.args.from loop.spot _ _ c.args.size _ c.requires.0 loop.invariant (run_room c.args.chain c.requires.0.unbroken loop.k c.args.times c.args.size c.loop-k-test.true),
      (
        run_fits c.args.first c.args.times c.args.size loop.k n (limit c.args.total) c.if-size-eq0.false c.loop-k-test.true c.requires.1.0,
        run_fits c.args.first c.args.times c.args.size loop.k n 65535 c.if-size-eq0.false c.loop-k-test.true c.requires.1.1,
      ),
    )

pub loop-k-preserved : goal.loop-k-preserved
loop-k-preserved c =
    let loop = c.loop-k in
    run_more c.args.chain c.requires.0.unbroken (shown_as c.args.total) c.args.from loop.spot _ c.args.size c.args.first loop.k loop.invariant c.put_layer-spot.ensures

pub returns : goal.returns
returns c =
    let loop = c.loop-k in
    walk_count c.args.chain c.requires.0.unbroken c.args.from loop.spot _ _ _ (ap (λ (k : ℕ). k * c.args.size) (le_antisymm loop.auto.k-end c.loop-k-test.false)) loop.invariant
