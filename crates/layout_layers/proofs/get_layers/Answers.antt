-- Questions 1 to 4 and 18, then the entries of the plan.
use Rattle.answer.proofs.Passing.{passed_on}
use mathlib.Core.Path.{sym, ap, ◌∙◌}
use Rattle.layout.specs.Parts.{found_outcome}
use Rattle.layout_layers.proofs.Calls.{layers_not_written, layers_written}
use Rattle.layout_layers.proofs.get_layers.Goals as goal

pub returns-in_err-found : goal.returns-in_err-found
returns-in_err-found c =
    rw (passed_on _ _ c.from_residual.ensures)
    (layers_not_written _ _ (sym (ap found_outcome c.in_err-found.was) ∙ c.ask.ensures) _)

pub returns : goal.returns
returns c =
    let e = sym (ap found_outcome c.in_ok-found.was) ∙ c.ask.ensures in
    layers_written _ _ e _ c.plan_of.ensures c.write_layers.ensures
