-- Questions 1 to 4 and 18, then those of the texts, then 10.
use Rattle.answer.proofs.Passing.{passed_on}
use mathlib.Core.Path.{refl, sym, ap, ◌∙◌}
use Rattle.answer.proofs.Lent.{filled_refused}
use Rattle.layout.proofs.Calls.{refused_in_room}
use Rattle.layout_reading.specs.Parts.{reader_outcome}
use Rattle.layout_explaining.proofs.Calls.{text_refused, text_held}
use Rattle.layout_explaining.proofs.explain_text.Goals as goal

pub returns-in_err-reader : goal.returns-in_err-reader
returns-in_err-reader c =
    rw (passed_on _ _ c.from_residual.ensures)
    (filled_refused _ _ (refused_in_room _ _ _ (text_refused _ _ _ _ (sym (ap reader_outcome c.in_err-reader.was) ∙ c.ask.ensures))) refl)

pub returns : goal.returns
returns c = text_held _ _ _ _ (sym (ap reader_outcome c.in_ok-reader.was) ∙ c.ask.ensures) c.tell.ensures
