-- Question 2, then what `divide` found, which the remainder law makes the only answer.
use mathlib.Core.Path.{ap, ◌∙◌}
use lib.IntN.{ℤ}
use borrow.Author.Rules.{rules}
use mir.Syntax.{w32}
use mir.ValLaws.{to_z-of_z}
use Rattle.answer.specs.Outcome.{given, refused}
use Rattle.answer.specs.Refusals.{number_of}
use Rattle.answer.specs.declared.Refusal.{Refusal}
use Rattle.answer.proofs.Passing.{passed_on}
use Rattle.math.proofs.Answers.{divide_refused, divide_given}
use Rattle.math.proofs.i32_dr_u16.Goals as goal

pub returns-in_err-asked : goal.returns-in_err-asked
returns-in_err-asked c =
    rw (passed_on _ _ c.from_residual.ensures)
    (ap (λ (q : Refusal). refused (number_of q)) c.in_err-asked.ensures.0 ∙ divide_refused _ _ c.in_err-asked.ensures.1)

pub returns : goal.returns
returns c =
    ap (λ (q : ℤ). given (q, c.divide-divided.result.remainder))
    (to_z-of_z w32 _ (search rules))
    ∙ divide_given w32 _ c.ranges.numer _ c.in_ok-asked.ensures _ _ c.divide-divided.ensures
