-- Questions 1 to 4 and 18, then the record as it came.
use Rattle.answer.proofs.Passing.{passed_on}
use mathlib.Core.Path.{sym, ap, ◌∙◌}
use Rattle.layout.specs.Parts.{found_outcome}
use Rattle.layout.proofs.Calls.{create_refused, create_given}
use Rattle.layout.proofs.accept.Goals as goal

pub returns-in_err-ask : goal.returns-in_err-ask
returns-in_err-ask c =
    rw (passed_on _ _ c.from_residual.ensures)
    (create_refused _ _ (sym (ap found_outcome c.in_err-ask.was) ∙ c.ask.ensures))

pub returns : goal.returns
returns c = create_given _ _ (sym (ap found_outcome c.in_ok-ask.was) ∙ c.ask.ensures)
