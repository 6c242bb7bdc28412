-- Questions 1 to 4 and 18, then the length of the layout's table.
use Rattle.answer.proofs.Passing.{passed_on}
use mathlib.Core.Path.{sym, ap, ◌∙◌}
use Rattle.answer.specs.Lent.{counted}
use Rattle.layout.specs.Parts.{found_outcome}
use Rattle.layout.proofs.Calls.{ready_given}
use Rattle.layout_table.proofs.Calls.{table_refused, table_counted}
use Rattle.layout_table.proofs.table_len.Goals as goal

pub returns-in_err-found : goal.returns-in_err-found
returns-in_err-found c =
    rw (passed_on _ _ c.from_residual.ensures)
    (ap counted (table_refused _ _ (sym (ap found_outcome c.in_err-found.was) ∙ c.ask.ensures)))

pub returns : goal.returns
returns c =
    let ready = c.prepare in
    let e = sym (ap found_outcome c.in_ok-found.was) ∙ c.ask.ensures in
    table_counted _ _ (ready_given _ _ e ready.result ready.ensures.1) _ c.lines_length.ensures
