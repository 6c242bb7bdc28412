-- Questions 1 to 4 and 18, then those of the text.
use Rattle.answer.proofs.Passing.{passed_on}
use mathlib.Core.Path.{refl, sym, ap, ◌∙◌}
use Rattle.answer.proofs.Lent.{filled_refused}
use Rattle.layout.specs.Parts.{found_outcome}
use Rattle.layout.proofs.Calls.{filled_as, refused_in_room}
use Rattle.layout_kbm.proofs.Calls.{keys_refused, keys_in_room}
use Rattle.layout_kbm.proofs.read_kbm.Goals as goal

pub returns-in_err-found : goal.returns-in_err-found
returns-in_err-found c =
    rw (passed_on _ _ c.from_residual.ensures)
    (filled_refused _ _
    (refused_in_room _ _ _ (keys_refused _ _ (sym (ap found_outcome c.in_err-found.was) ∙ c.ask.ensures) _)) refl)

pub returns : goal.returns
returns c =
    filled_as (keys_in_room _ _ (sym (ap found_outcome c.in_ok-found.was) ∙ c.ask.ensures) _ _) c.read_keys.ensures
