-- Question 1, then the row's start.
use mathlib.Core.Path.{◌∙◌}
use Rattle.answer.proofs.Passing.{refusal_asked}
use Rattle.genchain.proofs.Calls.{start_no_chain, start_given}
use Rattle.genchain.proofs.start.Goals as goal

pub returns-in_err-row : goal.returns-in_err-row
returns-in_err-row c =
    refusal_asked _ _ _ c.from_residual.ensures c.in_err-row.ensures.0 ∙ start_no_chain _ c.in_err-row.ensures.1

pub returns : goal.returns
returns c = start_given _ c.in_ok-row.ensures.0 _ c.in_ok-row.ensures.1
