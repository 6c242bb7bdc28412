-- Question 2, then the remainder.
use mathlib.Core.Path.{◌∙◌}
use mir.Syntax.{w32}
use Rattle.answer.proofs.Passing.{refusal_asked}
use Rattle.math.proofs.Answers.{rem_refused, rem_given, remainder_read}
use Rattle.math.proofs.i32_rem_u16.Goals as goal

pub returns-in_err-asked : goal.returns-in_err-asked
returns-in_err-asked c =
    refusal_asked _ _ _ c.from_residual.ensures c.in_err-asked.ensures.0 ∙ rem_refused _ _ c.in_err-asked.ensures.1

pub returns : goal.returns
returns c =
    rem_given _ _ _ c.in_ok-asked.ensures
    (remainder_read w32 c.args.numer c.ranges.numer _ _ c.rem_u16.ensures)
