-- Question 1, then the row's number.
use mathlib.Core.Path.{◌∙◌}
use Rattle.answer.proofs.Passing.{refusal_asked}
use Rattle.genchain.proofs.Calls.{count_no_chain, count_given}
use Rattle.genchain.proofs.num_letters.Goals as goal

pub returns-in_err-row : goal.returns-in_err-row
returns-in_err-row c =
    refusal_asked _ _ _ c.from_residual.ensures c.in_err-row.ensures.0 ∙ count_no_chain _ c.in_err-row.ensures.1

pub returns : goal.returns
returns c = count_given _ c.in_ok-row.ensures.0 _ c.in_ok-row.ensures.1
