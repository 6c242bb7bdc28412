use native.Mathlib.Omega.{arith}
use Rattle.layout_book.proofs.ReadyNumbers.{made_numbers}
use Rattle.layout_book.proofs.Turns.{entering_first, place_below, pair_fits_lem, turn_fits, entering_next, entering_length, all_entered}
use Rattle.layout_book.proofs.naming.Naming.put_entries.Goals as goal

pub loop-turn-init : goal.loop-turn-init
loop-turn-init c =
    entering_first _ (made_numbers c.args.self.prepared (omega (arith, c))) _ c.requires c.along-places.ensures.0

pub spelled-requires : goal.spelled-requires
spelled-requires c = omega (arith, place_below c.loop-turn.invariant, c.along-places.ensures.2)

pub put_cycles-text-requires : goal.put_cycles-text-requires
put_cycles-text-requires c =
    let spelled = rw (c.along-places.ensures.1, c.along-places.ensures.2) at c.spelled.ensures in
    (c.plan-plan.ensures.short, turn_fits c.loop-turn.invariant c.loop-turn-test.true spelled c.plan-plan.ensures)

pub overflow_mul-pair : goal.overflow_mul-pair
overflow_mul-pair c = omega (arith, c.loop-turn.invariant.numbers.few_cycles)

pub overflow_add-pair : goal.overflow_add-pair
overflow_add-pair c =
    let w = c.loop-turn.invariant in
    omega (arith, pair_fits_lem w c.loop-turn-test.true, w.numbers.few_keys)

pub next_degree-place-requires : goal.next_degree-place-requires
next_degree-place-requires c =
    let w = c.loop-turn.invariant in
    (w.numbers.walkable, place_below w)

pub loop-turn-preserved : goal.loop-turn-preserved
loop-turn-preserved c =
    let spelled = rw (c.along-places.ensures.1, c.along-places.ensures.2) at c.spelled.ensures in
    entering_next c.loop-turn.invariant c.loop-turn-test.true spelled c.plan-plan.ensures c.put_cycles-text.ensures
    c.next_degree-place.ensures

pub shape_of-out : goal.shape_of-out
shape_of-out c = entering_length c.loop-turn.invariant

pub returns : goal.returns
returns c = all_entered c.loop-turn.invariant c.loop-turn-test.false
