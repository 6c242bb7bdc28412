-- Questions 1 to 4 and 18, then those of the texts.
use Rattle.answer.proofs.Passing.{passed_on}
use mathlib.Core.Path.{sym, ap, ◌∙◌}
use Rattle.answer.specs.Lent.{counted}
use Rattle.layout_reading.specs.Parts.{reader_outcome}
use Rattle.layout_explaining.proofs.Calls.{text_refused, text_answered}
use Rattle.layout_explaining.proofs.explain_text_len.Goals as goal

pub returns-in_err-reader : goal.returns-in_err-reader
returns-in_err-reader c =
    rw (passed_on _ _ c.from_residual.ensures)
    (record {
      answered = ap counted (text_refused _ _ _ _ (sym (ap reader_outcome c.in_err-reader.was) ∙ c.ask.ensures));
      short = tt;
    })

pub returns : goal.returns
returns c =
    record {
      answered = text_answered _ _ _ _ (sym (ap reader_outcome c.in_ok-reader.was) ∙ c.ask.ensures) _ c.told_len.ensures.0;
      short = c.told_len.ensures.1;
    }
