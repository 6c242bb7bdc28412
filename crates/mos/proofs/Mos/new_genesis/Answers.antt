-- Question 2, then the genesis.
use Rattle.mos.proofs.Asking.{period_passed, period_given}
use Rattle.mos.proofs.Mos.new_genesis.Goals as goal

pub returns-in_err-pattern : goal.returns-in_err-pattern
returns-in_err-pattern c = period_passed _ _ _ c.from_residual.ensures c.in_err-pattern.ensures

pub returns : goal.returns
returns c = period_given _ _ c.in_ok-pattern.ensures.0 c.in_ok-pattern.ensures.1
