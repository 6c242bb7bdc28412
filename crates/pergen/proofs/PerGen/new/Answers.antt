-- Question 2, then the two numbers as they came.
use mathlib.Core.Path.{◌∙◌}
use Rattle.answer.proofs.Passing.{refusal_asked}
use Rattle.pergen.proofs.Calls.{new_refused, new_given}
use Rattle.pergen.proofs.PerGen.new.Goals as goal

pub returns-in_err-asked : goal.returns-in_err-asked
returns-in_err-asked c =
    refusal_asked _ _ _ c.from_residual.ensures c.in_err-asked.ensures.0 ∙ new_refused _ _ c.in_err-asked.ensures.1

pub returns : goal.returns
returns c = new_given _ _ c.in_ok-asked.ensures
