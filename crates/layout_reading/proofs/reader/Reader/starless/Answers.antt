-- A spelling, and whether it has stars.
use mathlib.Core.Path.{sym, ap, ◌∙◌}
use Rattle.answer.proofs.Passing.{passed_on}
use Rattle.layout_reading.specs.Parts.{typed_outcome}
use Rattle.layout_reading.proofs.Calls.{starless_given, starless_refused, starless_starred}
use Rattle.layout_reading.proofs.reader.Reader.starless.Goals as goal

pub returns-in_err-t : goal.returns-in_err-t
returns-in_err-t c =
    rw (passed_on _ _ c.from_residual.ensures) (starless_refused _ _ _ (sym (ap typed_outcome c.in_err-t.was) ∙ c.typed_spelling.ensures))

pub returns-then-t-ne0 : goal.returns-then-t-ne0
returns-then-t-ne0 c = starless_starred _ _ _ (sym (ap typed_outcome c.in_ok-t.was) ∙ c.typed_spelling.ensures) c.if-t-ne0.true

pub returns : goal.returns
returns c = starless_given _ _ _ (sym (ap typed_outcome c.in_ok-t.was) ∙ c.typed_spelling.ensures) c.if-t-ne0.false
