-- Questions 1 to 4 and 18, then the text at the place of the scale's name, which asks 10.
use Rattle.answer.proofs.Passing.{passed_on}
use mathlib.Core.Path.{refl, sym, ap, ◌∙◌}
use Rattle.answer.proofs.Lent.{filled_refused}
use Rattle.layout.specs.Parts.{found_outcome}
use Rattle.layout.proofs.Calls.{scale_refused, parts_of, filled_as, refused_in_room}
use Rattle.layout_scale_names.proofs.ScalePlaces.{scale_in_room}
use Rattle.layout_scale_names.proofs.get_scale_name.Goals as goal

pub place_of-requires : goal.place_of-requires
place_of-requires c = (parts_of _ _ (sym (ap found_outcome c.in_ok-found.was) ∙ c.ask.ensures)).chain

pub returns-in_err-found : goal.returns-in_err-found
returns-in_err-found c =
    rw (passed_on _ _ c.from_residual.ensures)
    (filled_refused _ _ (refused_in_room _ _ _ (scale_refused _ _ (sym (ap found_outcome c.in_err-found.was) ∙ c.ask.ensures))) refl)

pub returns : goal.returns
returns c =
    filled_as (scale_in_room _ _ (sym (ap found_outcome c.in_ok-found.was) ∙ c.ask.ensures) _ c.place_of.ensures _) c.fill.ensures
