-- Question 14, or the division.
use Rattle.answer.specs.Refusals.{outcome_of}
use Prim.Native.Nat.{◌≤◌}
use mathlib.Core.Path.{sym, ap, ◌∙◌}
use native.Mathlib.Omega.{arith}
use Rattle.text.proofs.Writing.{wrote_as}
use Rattle.edo_lines.proofs.Outputs.{output_refused, output_given, refusal_short}
use borrow.Author.Rules.{rules}
use Rattle.edo_lines.proofs.put_output.Goals as goal

pub put_refusal-requires : goal.put_refusal-requires
put_refusal-requires c =
    let few : c.number.result ≤ 65535 = search rules in
    omega (arith, refusal_short c.number.result few)

pub returns-in-Err : goal.returns-in-Err
returns-in-Err c =
    let few : c.number.result ≤ 65535 = search rules in
    let w = c.put_refusal.ensures in (
      wrote_as (output_refused _ _ _ c.number.ensures (sym (ap outcome_of c.in-Err.is) ∙ c.parse_number.ensures)) w,
      omega (arith, w.end, refusal_short c.number.result few),
    )

pub returns-in-Ok : goal.returns-in-Ok
returns-in-Ok c =
    let w = c.put_division.ensures in (
      wrote_as
          (output_given _ _
          (sym (ap outcome_of c.in-Ok.is)
          ∙ c.parse_number.ensures))
          w.0,
      w.1,
    )
