-- By the sign of the place, at 64 bits.
use native.Mathlib.Omega.{arith}
use mir.Syntax.{w64}
use Rattle.math.proofs.Signed.{mirror_fits, mirror_cast, mirror_below_half, by_mirror, positive_cast, by_cast}
use Rattle.text.proofs.Writing.{wrote_as}
use Rattle.layout_explaining.proofs.Wording.{placed_down, placed_home, placed_up}
use Rattle.layout_explaining.proofs.sentences.put_placed.Goals as goal

pub overflow_sub-down : goal.overflow_sub-down
overflow_sub-down c = mirror_fits w64 c.args.place c.ranges.place c.if-place-lt0.true

pub overflow_cast-down : goal.overflow_cast-down
overflow_cast-down c = mirror_cast w64 c.args.place c.ranges.place c.if-place-lt0.true

pub overflow_add-down : goal.overflow_add-down
overflow_add-down c = omega (arith, mirror_below_half w64 c.args.place c.ranges.place c.if-place-lt0.true)

pub returns-then-place-lt0 : goal.returns-then-place-lt0
returns-then-place-lt0 c = (
  wrote_as (placed_down _ _ _ _ _ _ _ (by_mirror w64 c.args.place c.ranges.place c.if-place-lt0.true)) c.put_moved.ensures.0,
  c.put_moved.ensures.1,
)

pub overflow_cast-up : goal.overflow_cast-up
overflow_cast-up c = positive_cast w64 c.args.place c.ranges.place c.if-place-lt0.false

pub returns-then-up-eq0 : goal.returns-then-up-eq0
returns-then-up-eq0 c = (
  wrote_as (placed_home _ _ _ _ _ _ _ (by_cast w64 c.args.place c.ranges.place c.if-place-lt0.false) c.if-up-eq0.true) c.put_home.ensures.0,
  omega (arith, c.put_home.ensures.1),
)

pub returns : goal.returns
returns c = (
  wrote_as (placed_up _ _ _ _ _ _ _ (by_cast w64 c.args.place c.ranges.place c.if-place-lt0.false) c.if-up-eq0.false) c.put_moved-2.ensures.0,
  c.put_moved-2.ensures.1,
)
