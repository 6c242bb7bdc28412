-- The output for what is kept is the output for the line: a refusal, or a table.
use mathlib.Core.Path.{sym, ap, ◌∙◌}
use native.Mathlib.Omega.{arith}
use Rattle.layout.specs.Parts.{found_outcome}
use Rattle.layout_table.specs.Tables.{output}
use Rattle.line.proofs.AskedLayouts.{line_laid}
use Rattle.streams.proofs.Enough.{printed}
use Rattle.key_table.proofs.OneLine.{line_is_enough}
use Rattle.key_table.proofs.Printing.{refusal_handed, table_handed, same_layout, short_lines, zeros_hold}
use Rattle.key_table.proofs.print.Goals as goal

pub print_table-requires : goal.print_table-requires
print_table-requires c =
    let e = sym (ap found_outcome c.in-Ok.is) ∙ c.ask_line.ensures in
    let same = same_layout _ _ e c.prepare.result c.prepare.ensures.1 in
    record {
      ready = c.prepare.ensures.0;
      short = short_lines _ c.prepare.result same c.prepare.ensures.0;
      room = zeros_hold 65536 65536 (omega arith);
    }

pub returns-in-Err : goal.returns-in-Err
returns-in-Err c =
    let e = sym (ap found_outcome c.in-Err.is) ∙ c.ask_line.ensures in
    printed output line_is_enough c.args.line.now _ c.kept.ensures _ (λ taken. refusal_handed _ _ _ e c.print_refusal.ensures)

pub returns-in-Ok : goal.returns-in-Ok
returns-in-Ok c =
    let e = sym (ap found_outcome c.in-Ok.is) ∙ c.ask_line.ensures in
    let same = same_layout _ _ e c.prepare.result c.prepare.ensures.1 in
    printed output line_is_enough c.args.line.now _ c.kept.ensures _ (λ taken. table_handed _ _ _ same (c.print_table.ensures taken))
