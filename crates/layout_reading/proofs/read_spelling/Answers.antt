-- Questions 1 to 4 and 18, then those of the text.
use mathlib.Core.Path.{sym, ap, ◌∙◌}
use Rattle.answer.proofs.Passing.{passed_on}
use Rattle.layout_reading.specs.Parts.{reader_outcome}
use Rattle.layout_reading.proofs.Calls.{reading_refused, reading_given}
use Rattle.layout_reading.proofs.read_spelling.Goals as goal

pub returns-in_err-reader : goal.returns-in_err-reader
returns-in_err-reader c =
    rw (passed_on _ _ c.from_residual.ensures) (reading_refused _ _ _ (sym (ap reader_outcome c.in_err-reader.was) ∙ c.ask.ensures))

pub returns : goal.returns
returns c = reading_given _ _ _ (sym (ap reader_outcome c.in_ok-reader.was) ∙ c.ask.ensures) _ c.read.ensures
