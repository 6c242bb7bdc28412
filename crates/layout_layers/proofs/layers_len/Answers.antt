-- Questions 1 to 4 and 18, then the number of entries.
use Rattle.answer.proofs.Passing.{passed_on}
use mathlib.Core.Path.{sym, ap, ◌∙◌}
use Rattle.answer.specs.Lent.{counted}
use Rattle.layout.specs.Parts.{found_outcome}
use Rattle.layout_layers.proofs.Calls.{layers_refused, length_given}
use Rattle.layout_layers.proofs.PlanLaws.{counts_entries}
use Rattle.layout_layers.proofs.layers_len.Goals as goal

pub returns-in_err-found : goal.returns-in_err-found
returns-in_err-found c =
    rw (passed_on _ _ c.from_residual.ensures)
    (ap counted (layers_refused _ _ (sym (ap found_outcome c.in_err-found.was) ∙ c.ask.ensures)))

pub returns : goal.returns
returns c =
    let e = sym (ap found_outcome c.in_ok-found.was) ∙ c.ask.ensures in
    length_given _ _ e _ c.plan_of-plan.ensures _ (counts_entries c.plan_of-plan.result c.entries.ensures)
