-- Question 15, then both choices.
use native.Mathlib.Omega.{arith}
use Rattle.edo_tritaves.proofs.Choosing.{no_steps, too_many, tritaves_given}
use Rattle.edo_tritaves.proofs.tritaves.Goals as goal

pub returns-then-n-eq0 : goal.returns-then-n-eq0
returns-then-n-eq0 c = no_steps _ c.if-n-eq0.true

pub returns-then-n-gt400 : goal.returns-then-n-gt400
returns-then-n-gt400 c = too_many _ c.if-n-gt400.true

pub returns : goal.returns
returns c = tritaves_given _ (omega arith) (omega arith) _ c.choose.ensures
