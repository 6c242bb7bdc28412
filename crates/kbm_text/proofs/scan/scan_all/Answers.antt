use native.Mathlib.Omega.{arith}
use Rattle.kbm_text.proofs.Scanning.{scan_start, scan_more, scan_end}
use Rattle.kbm_text.proofs.scan.scan_all.Goals as goal

pub loop-at-init : goal.loop-at-init
loop-at-init c = scan_start _ _

pub line_from-line-requires : goal.line_from-line-requires
line_from-line-requires c = (c.requires, c.loop-at-test.true)

pub step-s-requires : goal.step-s-requires
step-s-requires c =
    (omega (arith, c.loop-at.invariant.few, c.loop-at-test.true), c.loop-at.invariant.fewer)

pub overflow_add-at : goal.overflow_add-at
overflow_add-at c = omega (arith, c.line_from-line.ensures.0.inside)

pub loop-at-smaller : goal.loop-at-smaller
loop-at-smaller c = let e = c.line_from-line.ensures.0 in omega (arith, e.from, e.inside)

pub loop-at-preserved : goal.loop-at-preserved
loop-at-preserved c =
    scan_more _ _ _ _ c.loop-at.invariant _ c.line_from-line.ensures.0 _ c.line_from-line.ensures.1 _ c.step-s.ensures.0 c.step-s.ensures.1 c.step-s.ensures.2

pub returns : goal.returns
returns c = scan_end _ _ _ _ c.loop-at.invariant c.loop-at-test.false
