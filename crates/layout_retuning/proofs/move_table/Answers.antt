-- The questions of both layouts, then 10 and the moves.
use Rattle.answer.proofs.Passing.{passed_on}
use Rattle.layout_retuning.specs.Parts.{tunings_outcome}
use mathlib.Core.Path.{sym, ap, ◌∙◌}
use Rattle.layout_retuning.proofs.Tables.{not_written, written_given}
use Rattle.layout_retuning.proofs.move_table.Goals as goal

pub returns-in_err-tunings : goal.returns-in_err-tunings
returns-in_err-tunings c =
    rw (passed_on _ _ c.from_residual.ensures)
    (not_written _ _ (sym (ap tunings_outcome c.in_err-tunings.was) ∙ c.ask.ensures) _)

pub returns : goal.returns
returns c =
    written_given _ _
    (sym (ap tunings_outcome c.in_ok-tunings.was) ∙ c.ask.ensures)
    c.write_table.ensures
