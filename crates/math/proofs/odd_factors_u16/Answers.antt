use mathlib.Core.Path.{sym, ap, ◌∙◌}
use native.Mathlib.Omega.{arith}
use Rattle.math.specs.OddFactors.{odd_factors}
use Rattle.math.proofs.OddFactors.{odd_step, odd_done, odd_zero}
use Rattle.math.proofs.odd_factors_u16.Goals as goal

pub returns-then-number-eq0 : goal.returns-then-number-eq0
returns-then-number-eq0 c = odd_zero ∙ ap odd_factors (sym c.if-number-eq0.true)

pub loop-odd-preserved : goal.loop-odd-preserved
loop-odd-preserved c = (
  omega arith,
  odd_step _ c.loop-odd.invariant.0 c.loop-odd-test.true ∙ c.loop-odd.invariant.1,
)

pub returns : goal.returns
returns c = odd_done _ c.loop-odd-test.false ∙ c.loop-odd.invariant.1
