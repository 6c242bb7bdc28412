-- As many children as leave the longer step above 0; the counts fit since the pattern there has the same size.
use Prim.Native.Nat.{◌<◌}
use mathlib.Core.Path.{sym, ◌∙◌}
use native.Mathlib.Omega.{arith}
use Rattle.mos.specs.Patterns.{primary, secondary}
use Rattle.mos.proofs.Descent.{has_child}
use Rattle.mos_listings.proofs.Leaping.{down_fits, down_stays, leaps_down, up_fits, up_stays, leaps_up}
use Rattle.mos_listings.proofs.parts.leap_from.Goals as goal

pub nonzero_div-turns : goal.nonzero_div-turns
nonzero_div-turns c = omega (arith, (has_child c.args.m.mos (sym c.has_child.ensures ∙ c.if-not-has_child.false)).above_secondary)

pub overflow_mul-result : goal.overflow_mul-result
overflow_mul-result c =
    let m = c.args.m.mos in
    omega (arith, down_fits m c.args.m.fits (has_child m (sym c.has_child.ensures ∙ c.if-not-has_child.false)).above_secondary c.if-s-p.true)

pub overflow_add-result : goal.overflow_add-result
overflow_add-result c =
    let m = c.args.m.mos in
    omega (arith, down_fits m c.args.m.fits (has_child m (sym c.has_child.ensures ∙ c.if-not-has_child.false)).above_secondary c.if-s-p.true)

pub overflow_mul-result-then-s-p : goal.overflow_mul-result-then-s-p
overflow_mul-result-then-s-p c =
    let m = c.args.m.mos in
    omega (arith, down_stays m c.args.m.fits (has_child m (sym c.has_child.ensures ∙ c.if-not-has_child.false)).above_secondary c.if-s-p.true)

pub overflow_sub-result : goal.overflow_sub-result
overflow_sub-result c =
    let m = c.args.m.mos in
    omega (arith, down_stays m c.args.m.fits (has_child m (sym c.has_child.ensures ∙ c.if-not-has_child.false)).above_secondary c.if-s-p.true)

pub returns-then-s-p : goal.returns-then-s-p
returns-then-s-p c =
    let m = c.args.m.mos in
    leaps_down m c.args.m.fits (has_child m (sym c.has_child.ensures ∙ c.if-not-has_child.false)).above_secondary c.if-s-p.true

pub overflow_sub-turns-2 : goal.overflow_sub-turns-2
overflow_sub-turns-2 c = omega (arith, (has_child c.args.m.mos (sym c.has_child.ensures ∙ c.if-not-has_child.false)).above_secondary)

pub nonzero_div-turns-2 : goal.nonzero_div-turns-2
nonzero_div-turns-2 c = omega (arith, (has_child c.args.m.mos (sym c.has_child.ensures ∙ c.if-not-has_child.false)).above_primary)

pub overflow_mul-result-2 : goal.overflow_mul-result-2
overflow_mul-result-2 c =
    let m = c.args.m.mos in
    let h = has_child m (sym c.has_child.ensures ∙ c.if-not-has_child.false) in
    let longer : primary m < secondary m = omega (arith, h.unequal) in
    omega (arith, up_fits m c.args.m.fits h.above_primary longer)

pub overflow_add-result-2 : goal.overflow_add-result-2
overflow_add-result-2 c =
    let m = c.args.m.mos in
    let h = has_child m (sym c.has_child.ensures ∙ c.if-not-has_child.false) in
    let longer : primary m < secondary m = omega (arith, h.unequal) in
    omega (arith, up_fits m c.args.m.fits h.above_primary longer)

pub overflow_mul-result-3 : goal.overflow_mul-result-3
overflow_mul-result-3 c =
    let m = c.args.m.mos in
    let h = has_child m (sym c.has_child.ensures ∙ c.if-not-has_child.false) in
    let longer : primary m < secondary m = omega (arith, h.unequal) in
    omega (arith, up_stays m c.args.m.fits h.above_primary longer)

pub overflow_sub-result-2 : goal.overflow_sub-result-2
overflow_sub-result-2 c =
    let m = c.args.m.mos in
    let h = has_child m (sym c.has_child.ensures ∙ c.if-not-has_child.false) in
    let longer : primary m < secondary m = omega (arith, h.unequal) in
    omega (arith, up_stays m c.args.m.fits h.above_primary longer)

pub returns : goal.returns
returns c =
    let m = c.args.m.mos in
    let h = has_child m (sym c.has_child.ensures ∙ c.if-not-has_child.false) in
    let longer : primary m < secondary m = omega (arith, h.unequal) in
    leaps_up m c.args.m.fits h.above_primary longer

pub invariant_of-result : goal.invariant_of-result
invariant_of-result c =
    let m = c.args.m.mos in
    record { fits = (leaps_down m c.args.m.fits (has_child m (sym c.has_child.ensures ∙ c.if-not-has_child.false)).above_secondary c.if-s-p.true).pattern }

pub invariant_of-result-2 : goal.invariant_of-result-2
invariant_of-result-2 c =
    let m = c.args.m.mos in
    let h = has_child m (sym c.has_child.ensures ∙ c.if-not-has_child.false) in
    let longer : primary m < secondary m = omega (arith, h.unequal) in
    record { fits = (leaps_up m c.args.m.fits h.above_primary longer).pattern }
