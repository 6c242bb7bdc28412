-- The questions of both layouts, then the count.
use Rattle.answer.proofs.Passing.{passed_on}
use Rattle.layout_retuning.specs.Parts.{tunings_outcome}
use mathlib.Core.Path.{sym, ap, ◌∙◌}
use Rattle.layout_retuning.proofs.Tables.{count_refused, count_given}
use Rattle.layout_retuning.proofs.move_table_len.Goals as goal

pub returns-in_err-tunings : goal.returns-in_err-tunings
returns-in_err-tunings c =
    rw (passed_on _ _ c.from_residual.ensures)
    (count_refused _ _ (sym (ap tunings_outcome c.in_err-tunings.was) ∙ c.ask.ensures))

pub returns : goal.returns
returns c =
    count_given _ _ (sym (ap tunings_outcome c.in_ok-tunings.was) ∙ c.ask.ensures) _ c.entries.ensures
