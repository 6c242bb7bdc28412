use Prim.Native.Nat.{◌*◌}
use native.Mathlib.Omega.{arith}
use mathlib.Core.Path.{ap, ◌∙◌}
use Rattle.layout_layers.specs.Parts.{shown_as}
use Rattle.layout_layers.proofs.SpreadLaws.{block_none, block_more, block_whole, block_number}
use Rattle.layout_layers.proofs.parts.put_turn.Goals as goal

pub overflow_mul-at : goal.overflow_mul-at
overflow_mul-at c = omega (arith, c.requires.1)

pub overflow_mul-number : goal.overflow_mul-number
overflow_mul-number c = omega (arith, c.requires.2.1)

pub loop-c-init : goal.loop-c-init
loop-c-init c = (block_none c.args.cycles c.args.turn _ _, omega arith)

pub shown-requires : goal.shown-requires
shown-requires c = omega (arith, c.loop-c.invariant.1, c.requires.2, c.loop-c-test.true)

pub overflow_add-out : goal.overflow_add-out
overflow_add-out c = omega (arith, c.requires.1, c.loop-c-test.true)

pub offset_bounds-out-at : goal.offset_bounds-out-at
offset_bounds-out-at c =
    omega (arith, c.requires.1, c.loop-c-test.true, c.loop-c.invariant.0.kept)

pub bounds-out-at : goal.bounds-out-at
bounds-out-at c =
    omega (arith, c.requires.1, c.loop-c-test.true, c.loop-c.invariant.0.kept)

pub overflow_add-number : goal.overflow_add-number
overflow_add-number c =
    omega (arith, c.loop-c.invariant.1, c.requires.2.1, c.loop-c-test.true)

pub loop-c-preserved : goal.loop-c-preserved
loop-c-preserved c =
    let loop = c.loop-c in
    let more = c.loop-c-test.true in (
      block_more c.args.cycles c.args.turn _ loop.c _ more (omega (arith, c.requires.1, more, loop.invariant.0.kept))
          (c.shown.ensures
          ∙ ap (shown_as c.args.total)
          (loop.invariant.1 ∙ block_number c.args.cycles (c.args.layer * c.args.cycles) c.args.turn loop.c more))
          loop.invariant.0,
      omega (arith, loop.invariant.1),
    )

pub returns : goal.returns
returns c =
    block_whole c.args.cycles c.args.turn _ c.loop-c.c c.requires.0 c.loop-c-test.false c.loop-c.invariant.0
