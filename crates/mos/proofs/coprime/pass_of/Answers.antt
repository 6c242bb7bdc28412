-- Each arm is one case of a pass; both steps cannot be 0, since their divisor is above 1.
use Prim.Native.Nat.{◌-◌}
use native.Mathlib.Nat.{div-le_self}
use native.Mathlib.Omega.{arith}
use Rattle.mos.proofs.Passes.{pass_down_one, pass_down, pass_up_one, pass_up, some_above}
use Rattle.mos.proofs.coprime.pass_of.Goals as goal

pub overflow_sub-result : goal.overflow_sub-result
overflow_sub-result c = omega (arith, some_above c.args.p c.args.s (omega arith))

pub overflow_sub-result-else-sharp-eq0 : goal.overflow_sub-result-else-sharp-eq0
overflow_sub-result-else-sharp-eq0 c = omega (arith, div-le_self (c.args.p - c.args.s) c.args.g)

pub overflow_add-result-else-sharp-eq0-2 : goal.overflow_add-result-else-sharp-eq0-2
overflow_add-result-else-sharp-eq0-2 c = omega (arith, div-le_self (c.args.s - c.args.p) c.args.g)

pub returns-then-sharp-eq0 : goal.returns-then-sharp-eq0
returns-then-sharp-eq0 c = pass_down_one _ _ _ (omega arith) (omega arith)

pub returns-else-sharp-eq0 : goal.returns-else-sharp-eq0
returns-else-sharp-eq0 c = pass_down _ _ _ (omega arith) (omega arith)

pub returns-then-sharp-eq0-2 : goal.returns-then-sharp-eq0-2
returns-then-sharp-eq0-2 c = pass_up_one _ _ _ (omega arith) (omega arith)

pub returns-else-sharp-eq0-2 : goal.returns-else-sharp-eq0-2
returns-else-sharp-eq0-2 c = pass_up _ _ _ (omega arith) (omega arith)
