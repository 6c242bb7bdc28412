-- The cycle goes up by one, or falls to 0 and the degree goes on.
use mathlib.Core.Path.{refl}
use native.Mathlib.Omega.{arith}
use Rattle.pergen.proofs.CarriedWalk.{at_stay, at_carry, at_degree_below, at_cycle_below}
use Rattle.pergen.proofs.stepping.next.Goals as goal

pub overflow_add-cycle : goal.overflow_add-cycle
overflow_add-cycle c =
    let pre = c.requires in
    let below = at_cycle_below _ pre.0 _ pre.1 in
    omega (arith, below)

pub returns-then-cycle-solved : goal.returns-then-cycle-solved
returns-then-cycle-solved c =
    let pre = c.requires in
    (at_stay _ pre.0 _ pre.1 c.if-cycle-solved.true, refl)

pub next_degree-requires : goal.next_degree-requires
next_degree-requires c =
    let pre = c.requires in
    (pre.0, at_degree_below _ pre.0 _ pre.1)

pub returns : goal.returns
returns c =
    let pre = c.requires in
    (at_carry _ pre.0 _ pre.1 c.if-cycle-solved.false c.next_degree.ensures, refl)
