-- The output for what is kept is the output for the line: a refusal, or a mapping.
use mathlib.Core.Path.{sym, ap, ◌∙◌}
use Rattle.layout.specs.Parts.{found_outcome}
use Rattle.line.proofs.AskedLayouts.{line_laid}
use Rattle.streams.proofs.Enough.{printed}
use Rattle.kbm.specs.Printing.{kbm_output}
use Rattle.kbm.proofs.Printing.{line_is_enough, refusal_handed, mapping_handed, same_layout}
use Rattle.kbm.proofs.print.Goals as goal

pub print_mapping-requires : goal.print_mapping-requires
print_mapping-requires c =
    let e = sym (ap found_outcome c.in-Ok.is) ∙ c.ask_line.ensures in
    let same = same_layout _ _ e c.prepare.result c.prepare.ensures.1 in
    record { ready = c.prepare.ensures.0; few = (line_laid _ _ same).few_keys }

pub returns-in-Err : goal.returns-in-Err
returns-in-Err c =
    let e = sym (ap found_outcome c.in-Err.is) ∙ c.ask_line.ensures in
    printed kbm_output line_is_enough c.args.line.now _ c.kept.ensures _ (λ taken. refusal_handed _ _ _ e c.print_refusal.ensures)

pub returns-in-Ok : goal.returns-in-Ok
returns-in-Ok c =
    let e = sym (ap found_outcome c.in-Ok.is) ∙ c.ask_line.ensures in
    let same = same_layout _ _ e c.prepare.result c.prepare.ensures.1 in
    printed kbm_output line_is_enough c.args.line.now _ c.kept.ensures _ (λ taken. mapping_handed _ _ _ same c.print_mapping.ensures)
