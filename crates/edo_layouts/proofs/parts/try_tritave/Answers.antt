-- The questions of the layout, then what they found.
use Rattle.answer.proofs.Passing.{passed_on}
use mathlib.Core.Path.{sym, ap, ◌∙◌}
use Rattle.layout.specs.Parts.{found_outcome}
use Rattle.edo_layouts.proofs.Serving.{tried_refused, tried_given}
use Rattle.edo_layouts.proofs.parts.try_tritave.Goals as goal

pub returns-in_err-found : goal.returns-in_err-found
returns-in_err-found c =
    rw (passed_on _ _ c.from_residual.ensures)
    (tried_refused _ _ _ _ _
    c.default_layout-layout.ensures
    _
    (sym (ap found_outcome c.in_err-found.was) ∙ c.ask.ensures))

pub returns : goal.returns
returns c =
    tried_given _ _ _ _ _
    c.default_layout-layout.ensures
    _
    (sym (ap found_outcome c.in_ok-found.was) ∙ c.ask.ensures)
