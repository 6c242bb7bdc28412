-- Questions 1 to 4 and 18, then the plan's total.
use Rattle.answer.proofs.Passing.{passed_on}
use mathlib.Core.Path.{sym, ap, ◌∙◌}
use Rattle.layout.specs.Parts.{found_outcome}
use Rattle.layout_layers.proofs.Calls.{count_refused, count_given}
use Rattle.layout_layers.proofs.layer_count.Goals as goal

pub returns-in_err-found : goal.returns-in_err-found
returns-in_err-found c =
    rw (passed_on _ _ c.from_residual.ensures)
    (count_refused _ _ (sym (ap found_outcome c.in_err-found.was) ∙ c.ask.ensures))

pub returns : goal.returns
returns c =
    let e = sym (ap found_outcome c.in_ok-found.was) ∙ c.ask.ensures in
    count_given _ _ e _ c.plan_of.ensures _ c.total_of.ensures
