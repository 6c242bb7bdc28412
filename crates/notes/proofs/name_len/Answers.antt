-- Question 1, then the length of the plan's text, which is the name.
use mathlib.Core.Path.{ap, ◌∙◌}
use lib.ListN.{length}
use Rattle.answer.proofs.Passing.{refusal_asked}
use Rattle.genchain.proofs.TableRows.{table_row}
use Rattle.notes.proofs.Calls.{length_no_chain, planned_name, length_given}
use Rattle.notes.proofs.name_len.Goals as goal

pub returns-in_err-row : goal.returns-in_err-row
returns-in_err-row c =
    refusal_asked _ _ _ c.from_residual.ensures c.in_err-row.ensures.0 ∙ length_no_chain _ _ _ c.in_err-row.ensures.1

pub plan_name-plan-requires : goal.plan_name-plan-requires
plan_name-plan-requires c = table_row _ _ c.in_ok-row.ensures.0 c.in_ok-row.ensures.1

pub returns : goal.returns
returns c =
    let below = c.in_ok-row.ensures.0 in
    length_given _ _ _ below _
    (c.plan_length.ensures.length_is
    ∙ ap length (planned_name _ _ _ below _ _ c.in_ok-row.ensures.1 c.plan_name-plan.ensures))
