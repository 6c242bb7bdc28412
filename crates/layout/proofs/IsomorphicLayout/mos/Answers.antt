-- Questions 1 to 4 and 18, then the pattern.
use Rattle.answer.proofs.Passing.{passed_on}
use mathlib.Core.Path.{sym, ap, ◌∙◌}
use Rattle.layout.specs.Parts.{found_outcome}
use Rattle.layout.proofs.Calls.{mos_refused, mos_given}
use Rattle.layout.proofs.IsomorphicLayout.mos.Goals as goal

pub returns-in_err-found : goal.returns-in_err-found
returns-in_err-found c =
    rw (passed_on _ _ c.from_residual.ensures)
    (mos_refused _ _ (sym (ap found_outcome c.in_err-found.was) ∙ c.ask.ensures))

pub returns : goal.returns
returns c = mos_given _ _ (sym (ap found_outcome c.in_ok-found.was) ∙ c.ask.ensures)
