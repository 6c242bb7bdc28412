-- Question 1, then 10 and the plan's text at the front, which is the name.
use Rattle.answer.proofs.Lent.{filled_refused}
use Rattle.answer.proofs.Passing.{refusal_asked}
use Rattle.genchain.proofs.TableRows.{table_row}
use Rattle.notes.proofs.Calls.{name_no_chain, planned_name, name_in_room}
use Rattle.notes.proofs.write_name.Goals as goal

pub returns-in_err-row : goal.returns-in_err-row
returns-in_err-row c =
    filled_refused 1 _ (name_no_chain _ _ _ c.in_err-row.ensures.1 _)
    (refusal_asked _ _ _ c.from_residual.ensures c.in_err-row.ensures.0)

pub plan_name-plan-requires : goal.plan_name-plan-requires
plan_name-plan-requires c = table_row _ _ c.in_ok-row.ensures.0 c.in_ok-row.ensures.1

pub write_planned-requires : goal.write_planned-requires
write_planned-requires c = c.plan_name-plan.ensures.short

pub returns : goal.returns
returns c =
    let below = c.in_ok-row.ensures.0 in
    name_in_room _ _ _ below _ (planned_name _ _ _ below _ _ c.in_ok-row.ensures.1 c.plan_name-plan.ensures) c.write_planned.ensures
