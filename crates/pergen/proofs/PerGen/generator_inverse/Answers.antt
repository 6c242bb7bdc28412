-- Question 2, then what `solve` found.
use mathlib.Core.Path.{◌∙◌}
use Rattle.answer.proofs.Passing.{refusal_asked}
use Rattle.pergen.proofs.Calls.{no_number, number_given, solved_inverse}
use Rattle.pergen.proofs.PerGen.generator_inverse.Goals as goal

pub returns-in_err-asked : goal.returns-in_err-asked
returns-in_err-asked c =
    refusal_asked _ _ _ c.from_residual.ensures c.in_err-asked.ensures.0 ∙ no_number _ c.in_err-asked.ensures.1 _

pub returns : goal.returns
returns c = number_given _ c.in_ok-asked.ensures _ _ (solved_inverse _ _ _ c.solve-solved.ensures)
