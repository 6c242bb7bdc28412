-- Question 14, then those of the layout.
use Rattle.answer.proofs.Passing.{passed_on}
use Rattle.answer.specs.Refusals.{outcome_of}
use mathlib.Core.Path.{sym, ap, ◌∙◌}
use Rattle.layout.specs.Layouts.{layout_outcome}
use Rattle.line.proofs.AskedLayouts.{line_not_read, line_read}
use Rattle.line.proofs.layouts.ask_line.Goals as goal

pub returns-in_err-asked : goal.returns-in_err-asked
returns-in_err-asked c =
    rw (passed_on _ _ c.from_residual.ensures)
    (line_not_read _ _ (sym (ap outcome_of c.in_err-asked.was) ∙ c.parse.ensures))

pub returns : goal.returns
returns c =
    line_read _ _ _ (sym (ap outcome_of c.in_ok-asked.was) ∙ c.parse.ensures) (c.ask.ensures ∙ ap layout_outcome c.default_layout.ensures)
