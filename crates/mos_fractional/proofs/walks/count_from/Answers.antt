use mathlib.Core.Path.{refl, sym, ◌∙◌}
use native.Mathlib.Omega.{arith}
use Rattle.mos_fractional.proofs.Descent.{child_at, child_room, child_grows}
use Rattle.mos_fractional.proofs.Walking.{growing_child, fewer_left, length_next, length_end}
use Rattle.mos_fractional.proofs.walks.count_from.Goals as goal

pub loop-child-init : goal.loop-child-init
loop-child-init c = (c.requires, refl, omega (arith, c.requires.0, c.requires.1))

pub overflow_add-count : goal.overflow_add-count
overflow_add-count c =
    let at = c.loop-child in
    let e = sym c.child.ensures ∙ c.in-Some.is in
    record { fits = omega (arith, at.invariant.2, child_room (child_at e)) }

pub loop-child-smaller : goal.loop-child-smaller
loop-child-smaller c =
    let at = c.loop-child in
    fewer_left at.here _ at.invariant.0 (sym c.child.ensures ∙ c.in-Some.is)

pub loop-child-preserved : goal.loop-child-preserved
loop-child-preserved c =
    let at = c.loop-child in
    let e = sym c.child.ensures ∙ c.in-Some.is in (
      growing_child at.here _ at.invariant.0 e,
      omega (arith, at.invariant.1, length_next at.here at.invariant.0 _ e),
      omega (arith, at.invariant.2, child_grows (child_at e) at.invariant.0.0 at.invariant.0.1),
    )

pub returns : goal.returns
returns c =
    let at = c.loop-child in
    omega (
      arith,
      at.invariant.1,
      length_end at.here at.invariant.0
          (sym c.child.ensures ∙ c.in_default.is),
    )
