-- Question 15, then the numbers of all chains, which ask 10.
use Rattle.answer.proofs.Passing.{passed_on}
use Rattle.answer.specs.Refusals.{outcome_of}
use mathlib.Core.Path.{refl, sym, ap, ◌∙◌}
use Rattle.answer.proofs.Lent.{filled_refused}
use Rattle.layout.proofs.Calls.{filled_as, refused_in_room}
use Rattle.edo_layouts.proofs.Listing.{find_refused, find_in_room}
use Rattle.edo_layouts.proofs.find_by_edo.Goals as goal

pub returns-in_err-choices : goal.returns-in_err-choices
returns-in_err-choices c =
    rw (passed_on _ _ c.from_residual.ensures)
    (filled_refused _ _
    (refused_in_room _ _ _
    (find_refused _ _ (sym (ap outcome_of c.in_err-choices.was) ∙ c.tritaves.ensures)))
    refl)

pub returns : goal.returns
returns c =
    filled_as
    (find_in_room _ _
    (sym (ap outcome_of c.in_ok-choices.was)
    ∙ c.tritaves.ensures)
    _)
    c.write_layouts.ensures
