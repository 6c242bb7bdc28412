-- The printed spellings, the slash and the parentheses.
use mathlib.Core.Path.{ap}
use native.Mathlib.Omega.{arith}
use lib.ListN.{length}
use Rattle.notes.proofs.Lengths.{length_two, length_in_parentheses, length_plain, body_bracketed, body_one}
use Rattle.notes.proofs.plans.body_length.Goals as goal

pub returns-then-plan-2 : goal.returns-then-plan-2
returns-then-plan-2 c =
    let p = c.args.plan in
    record {
      length_is = omega (arith, length_two p, length_in_parentheses p c.if-plan-2.true, ap length (body_bracketed p c.if-plan.true));
      bound = omega arith;
    }

pub returns-then-plan : goal.returns-then-plan
returns-then-plan c =
    let p = c.args.plan in
    record { length_is = omega (arith, length_two p, length_plain p c.if-plan-2.false, ap length (body_bracketed p c.if-plan.true)); bound = omega arith }

pub returns : goal.returns
returns c =
    let p = c.args.plan in
    record { length_is = omega (arith, ap length (body_one p c.if-plan.false)); bound = omega arith }
