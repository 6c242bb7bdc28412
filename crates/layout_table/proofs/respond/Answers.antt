-- The line's questions and the layout's: one law for each way in which the output is made.
use mathlib.Core.Path.{sym, ap, ◌∙◌}
use Rattle.answer.specs.Lent.{held_in}
use Rattle.layout.specs.Parts.{layout_of, found_outcome}
use Rattle.layout.specs.declared.parts.Found.{Found}
use Rattle.layout.proofs.Calls.{filled_as}
use Rattle.layout_table.specs.Tables.{table_in}
use Rattle.layout_table.proofs.Calls.{output_refused, output_given}
use Rattle.layout_table.proofs.respond.Goals as goal

pub returns-in-Err : goal.returns-in-Err
returns-in-Err c =
    filled_as (ap (held_in _) (output_refused _ _ _ c.number.ensures (sym (ap found_outcome c.in-Err.is) ∙ c.ask_line.ensures))) c.write_refusal.ensures

pub returns-in-Ok : goal.returns-in-Ok
returns-in-Ok c =
    let e = sym (ap found_outcome c.in-Ok.is) ∙ c.ask_line.ensures in
    let same = ap (λ (f : Found). table_in (layout_of f)) c.prepare.ensures.1 in
    filled_as (ap (held_in _) (same ∙ output_given _ _ e)) c.write_lines.ensures
