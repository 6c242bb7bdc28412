-- Question 15, then what the chain gets.
use Rattle.answer.proofs.Passing.{passed_on}
use Rattle.answer.specs.Refusals.{outcome_of}
use mathlib.Core.Path.{sym, ap, ◌∙◌}
use Rattle.edo_layouts.proofs.Serving.{chain_refused, chain_served_lem}
use Rattle.edo_layouts.proofs.find_chain_by_edo.Goals as goal

pub returns-in_err-choices : goal.returns-in_err-choices
returns-in_err-choices c =
    rw (passed_on _ _ c.from_residual.ensures)
    (chain_refused _ _ _ (sym (ap outcome_of c.in_err-choices.was) ∙ c.tritaves.ensures))

pub returns : goal.returns
returns c =
    c.serve.ensures
    ∙ chain_served_lem _ _ _
    (sym (ap outcome_of c.in_ok-choices.was) ∙ c.tritaves.ensures)
