use native.Mathlib.Omega.{arith}
use Rattle.kbm_text.proofs.LineLaws.{going_start, going_more, going_end}
use Rattle.kbm_text.proofs.scan.line_end.Goals as goal

pub loop-end-init : goal.loop-end-init
loop-end-init c = going_start _ _ c.requires.1

pub bounds-text-end : goal.bounds-text-end
bounds-text-end c = c.loop-end.invariant.inside

pub overflow_add-end : goal.overflow_add-end
overflow_add-end c = omega (arith, c.loop-end.invariant.inside)

pub loop-end-smaller : goal.loop-end-smaller
loop-end-smaller c = omega (arith, c.loop-end.invariant.inside)

pub loop-end-preserved : goal.loop-end-preserved
loop-end-preserved c = going_more _ _ _ c.loop-end.invariant c.requires.0 c.loop-end-test.true

pub returns : goal.returns
returns c = going_end _ _ _ c.loop-end.invariant c.loop-end-test.false
