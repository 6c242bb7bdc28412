-- Questions 1 to 4 and 18, then the length of the text at the place of the scale's name.
use Rattle.answer.proofs.Passing.{passed_on}
use mathlib.Core.Path.{sym, ap, ◌∙◌}
use Rattle.answer.specs.Lent.{counted}
use Rattle.layout.specs.Parts.{found_outcome}
use Rattle.layout.proofs.Calls.{scale_refused, parts_of}
use Rattle.layout_scale_names.proofs.ScalePlaces.{scale_count}
use Rattle.layout_scale_names.proofs.scale_name_len.Goals as goal

pub place_of-requires : goal.place_of-requires
place_of-requires c = (parts_of _ _ (sym (ap found_outcome c.in_ok-found.was) ∙ c.ask.ensures)).chain

pub returns-in_err-found : goal.returns-in_err-found
returns-in_err-found c =
    rw (passed_on _ _ c.from_residual.ensures)
    (ap counted (scale_refused _ _ (sym (ap found_outcome c.in_err-found.was) ∙ c.ask.ensures)))

pub returns : goal.returns
returns c =
    scale_count _ _ (sym (ap found_outcome c.in_ok-found.was) ∙ c.ask.ensures) _ c.place_of.ensures _ c.text_len.ensures
