-- Questions 1 to 4 and 18, then the lines of the layout's table.
use Rattle.answer.proofs.Passing.{passed_on}
use mathlib.Core.Path.{refl, sym, ap, ◌∙◌}
use Rattle.answer.proofs.Lent.{filled_refused}
use Rattle.layout.specs.Parts.{found_outcome}
use Rattle.layout.proofs.Calls.{ready_given, filled_as, refused_in_room}
use Rattle.layout_table.proofs.Calls.{table_refused, table_in_room}
use Rattle.layout_table.proofs.write_table.Goals as goal

pub returns-in_err-found : goal.returns-in_err-found
returns-in_err-found c =
    rw (passed_on _ _ c.from_residual.ensures)
    (filled_refused _ _ (refused_in_room _ _ _ (table_refused _ _ (sym (ap found_outcome c.in_err-found.was) ∙ c.ask.ensures))) refl)

pub returns : goal.returns
returns c =
    let e = sym (ap found_outcome c.in_ok-found.was) ∙ c.ask.ensures in
    let ready = c.prepare in
    filled_as (table_in_room _ _ (ready_given _ _ e ready.result ready.ensures.1) _) c.write_lines.ensures
