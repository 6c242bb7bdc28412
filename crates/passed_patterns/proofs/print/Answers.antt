-- The output for what is kept is the output for the line.
use Rattle.answer.specs.Refusals.{outcome_of}
use mathlib.Core.Path.{sym, ap, ◌∙◌}
use Rattle.passed_patterns.proofs.Outputs.{printed_refused, printed_given}
use Rattle.passed_patterns.proofs.print.Goals as goal

pub returns-in-Err : goal.returns-in-Err
returns-in-Err c =
    printed_refused c.args.line.now _ c.kept.ensures _ _ (sym (ap outcome_of c.in-Err.is) ∙ c.parse.ensures) c.print_refusal.ensures

pub returns-in-Ok : goal.returns-in-Ok
returns-in-Ok c =
    printed_given c.args.line.now _ c.kept.ensures _ _ (sym (ap outcome_of c.in-Ok.is) ∙ c.parse.ensures) c.print_asked.ensures
