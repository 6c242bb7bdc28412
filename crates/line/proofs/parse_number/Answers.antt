-- What is read at the front.
use mathlib.Core.Path.{◌∙◌}
use Rattle.answer.proofs.Passing.{passed_on}
use Rattle.line.proofs.Fields.{found, missing}
use Rattle.line.proofs.OneNumber.{no_number_line, number_line_lem}
use Rattle.line.proofs.parse_number.Goals as goal

pub returns-in_err-number : goal.returns-in_err-number
returns-in_err-number c =
    let none = missing _ _ _ _ c.ok_or.ensures.value c.in_err-number.was in
    rw (passed_on _ _ c.from_residual.ensures, none.1) (no_number_line _ (none.0 ∙ c.read_field.ensures))

pub returns : goal.returns
returns c = number_line_lem _ _ _ (found _ _ _ _ c.ok_or.ensures.value c.in_ok-number.was ∙ c.read_field.ensures)
