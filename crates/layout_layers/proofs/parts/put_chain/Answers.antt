use native.Mathlib.Omega.{arith}
use Rattle.mos_layers.specs.Parts.{run_at}
use Rattle.mos_layers.proofs.Sizes.{count_none, count_more}
use Rattle.layout_layers.specs.Parts.{shown_as, limit}
use Rattle.layout_layers.proofs.PlanLaws.{listed_within}
use Rattle.layout_layers.proofs.RunPlaces.{count_within}
use Rattle.layout_layers.proofs.ChainLaws.{chain_start, chain_ahead, chain_fits, chain_more, chain_done}
use Rattle.layout_layers.proofs.parts.put_chain.Goals as goal

pub first_spot-spot-requires : goal.first_spot-spot-requires
first_spot-spot-requires c = c.args.plan.sound.unbroken

pub loop-i-init : goal.loop-i-init
loop-i-init c =
    let runs = c.args.plan.runs in
    (chain_start c.args.plan.chain c.args.plan.sound.unbroken runs (shown_as c.args.total) c.first_spot-spot.result _ c.first_spot-spot.ensures.0, count_none (run_at runs.sizes runs.times))

pub offset_bounds-sizes-i : goal.offset_bounds-sizes-i
offset_bounds-sizes-i c = omega arith

pub bounds-sizes-i : goal.bounds-sizes-i
bounds-sizes-i c = omega arith

pub offset_bounds-times-i : goal.offset_bounds-times-i
offset_bounds-times-i c = omega arith

pub bounds-times-i : goal.bounds-times-i
bounds-times-i c = omega arith

pub put_run-spot-requires : goal.put_run-spot-requires
put_run-spot-requires c =
    let loop = c.loop-i in
    let plan = c.args.plan in
    let more = c.loop-i-test.true in (
      chain_ahead plan.chain c.args.plan.sound.unbroken plan.runs (shown_as c.args.total) loop.i more c.first_spot-spot.result loop.spot c.first_spot-spot.ensures.1 loop.invariant.0 c.args.plan.sound.runs_fill c.requires.2,
      (
        chain_fits plan.chain c.args.plan.sound.unbroken plan.runs (shown_as c.args.total) loop.i more loop.first (limit c.args.total) loop.invariant.1 (listed_within plan plan.sound _ c.requires.1 c.requires.0),
        chain_fits plan.chain plan.sound.unbroken plan.runs (shown_as c.args.total) loop.i more loop.first 65535 loop.invariant.1 (listed_within plan plan.sound _ c.requires.1 plan.sound.layers_fit),
      ),
    )

pub overflow_add-first : goal.overflow_add-first
overflow_add-first c =
    let loop = c.loop-i in
    let plan = c.args.plan in
    omega (arith, count_within plan.runs loop.i c.loop-i-test.true loop.first c.layers_in-first.result loop.invariant.1 c.layers_in-first.ensures, c.args.plan.sound.runs_fill)

pub loop-i-preserved : goal.loop-i-preserved
loop-i-preserved c =
    let loop = c.loop-i in
    let plan = c.args.plan in
    let more = c.loop-i-test.true in (
      chain_more plan.chain c.args.plan.sound.unbroken plan.runs (shown_as c.args.total) loop.i more c.first_spot-spot.result loop.spot c.first_spot-spot.ensures.1 loop.invariant.0 _ loop.first loop.invariant.1 c.put_run-spot.ensures,
      count_more (run_at plan.runs.sizes plan.runs.times) loop.i loop.invariant.1 c.layers_in-first.ensures,
    )

pub returns : goal.returns
returns c =
    let loop = c.loop-i in
    let plan = c.args.plan in
    chain_done plan.chain c.args.plan.sound.unbroken plan.runs (shown_as c.args.total) c.first_spot-spot.result loop.spot loop.i c.first_spot-spot.ensures.1 loop.auto.i-end c.loop-i-test.false c.args.plan.sound.runs_fill loop.invariant.0
