use native.Mathlib.Omega.{arith}
use Rattle.math.proofs.Congruence.{mod_room}
use Rattle.layout_book.proofs.ReadyNumbers.{Numbers, made_numbers}
use Rattle.layout_book.proofs.PlacesAlong.{first_past, adding_first, can_go_on, total_fits, adding_next, all_added}
use Rattle.layout_book.proofs.naming.Naming.stretch_length.Goals as goal

pub overflow_mul-first : goal.overflow_mul-first
overflow_mul-first c = omega (arith, c.requires.inside, c.requires.end_inside)

pub overflow_sub-flat : goal.overflow_sub-flat
overflow_sub-flat c = omega (arith, c.requires.inside, c.requires.end_inside)

pub overflow_sub-flat-2 : goal.overflow_sub-flat-2
overflow_sub-flat-2 c = omega (arith, (made_numbers c.args.self.prepared (omega arith)).five)

pub overflow_add-flat : goal.overflow_add-flat
overflow_add-flat c =
    let h : Numbers c.args.self.prepared = made_numbers c.args.self.prepared (omega arith) in
    omega (
      arith,
      c.requires.inside,
      c.requires.end_inside,
      h.few_degrees,
      first_past c.args.self.prepared h c.args.sharps c.args.end c.requires,
    )

pub overflow_sub-spelled : goal.overflow_sub-spelled
overflow_sub-spelled c = omega (arith, (made_numbers c.args.self.prepared (omega arith)).five)

pub nonzero_rem-spelled : goal.nonzero_rem-spelled
nonzero_rem-spelled c = omega (arith, (made_numbers c.args.self.prepared (omega arith)).five)

pub overflow_sub-spelled-2 : goal.overflow_sub-spelled-2
overflow_sub-spelled-2 c = mod_room _ _ (omega (arith, (made_numbers c.args.self.prepared (omega arith)).five))

pub nonzero_div-spelled : goal.nonzero_div-spelled
nonzero_div-spelled c = omega (arith, (made_numbers c.args.self.prepared (omega arith)).five)

pub loop-init : goal.loop-init
loop-init c =
    let h : Numbers c.args.self.prepared = made_numbers c.args.self.prepared (omega arith) in
    adding_first _ h _ _ c.requires c.first_cycle.ensures (omega (arith, c.requires.inside, c.requires.end_inside, h.five))

-- the names before the place, and the name there
pub overflow_add-total : goal.overflow_add-total
overflow_add-total c = omega (arith, total_fits c.loop.invariant c.loop-test.true c.plan.ensures c.plan_length-total.ensures)

pub go_on-spelled-requires : goal.go_on-spelled-requires
go_on-spelled-requires c = can_go_on c.loop.invariant c.loop-test.true

pub loop-preserved : goal.loop-preserved
loop-preserved c = adding_next c.loop.invariant c.loop-test.true c.plan.ensures c.plan_length-total.ensures c.go_on-spelled.ensures

pub returns : goal.returns
returns c = all_added c.loop.invariant c.loop-test.false
