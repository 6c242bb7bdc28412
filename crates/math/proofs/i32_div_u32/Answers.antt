-- Question 2, then what `divide` found, which the remainder law makes the only answer.
use mathlib.Core.Path.{ap, ◌∙◌}
use borrow.Author.Rules.{rules}
use mir.Syntax.{w32}
use mir.ValLaws.{to_z-of_z}
use Rattle.answer.specs.Outcome.{given}
use Rattle.answer.proofs.Passing.{refusal_asked}
use Rattle.math.proofs.Answers.{div_refused, div_given}
use Rattle.math.proofs.i32_div_u32.Goals as goal

pub returns-in_err-asked : goal.returns-in_err-asked
returns-in_err-asked c =
    refusal_asked _ _ _ c.from_residual.ensures c.in_err-asked.ensures.0 ∙ div_refused _ _ c.in_err-asked.ensures.1

pub returns : goal.returns
returns c =
    ap given (to_z-of_z w32 _ (search rules))
    ∙ div_given w32 _ c.ranges.numer _ c.in_ok-asked.ensures _ _ c.divide-divided.ensures
