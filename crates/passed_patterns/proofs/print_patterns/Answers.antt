use mathlib.Core.Path.{sym, ◌∙◌}
use native.Mathlib.Omega.{arith}
use Rattle.mos.proofs.Descent.{child_at, child_falls}
use Rattle.passed_patterns.proofs.Showing.{going_start, going_on, ends_here, ends_childless}
use Rattle.passed_patterns.proofs.print_patterns.Goals as goal

pub loop-done-init : goal.loop-done-init
loop-done-init c = going_start _ _ _ c.requires

pub returns-then-not-has_child : goal.returns-then-not-has_child
returns-then-not-has_child c =
    let loop = c.loop-done in
    ends_childless _ _ _ _ _ loop.invariant _ c.print_pattern-done.ensures
    (omega (arith, c.count_of.ensures, c.loop-done-test.true))
    (sym c.has_child.ensures ∙ c.if-not-has_child.true)

pub child_of-pattern-requires : goal.child_of-pattern-requires
child_of-pattern-requires c =
    (c.loop-done.invariant.is_pattern_lem, sym c.has_child.ensures ∙ c.if-not-has_child.false)

pub loop-done-smaller : goal.loop-done-smaller
loop-done-smaller c = child_falls (child_at c.child_of-pattern.ensures)

pub loop-done-preserved : goal.loop-done-preserved
loop-done-preserved c =
    let loop = c.loop-done in
    going_on _ _ _ _ _ loop.invariant _ c.print_pattern-done.ensures _
    (omega (arith, c.count_of.ensures, c.loop-done-test.true)) c.child_of-pattern.ensures

pub returns : goal.returns
returns c =
    let loop = c.loop-done in
    ends_here _ _ _ _ _ loop.invariant _ c.print_pattern.ensures (omega (arith, c.count_of.ensures, c.loop-done-test.false))
