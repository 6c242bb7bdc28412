-- The generator of the chain, or a refusal.
use Rattle.answer.specs.Refusals.{outcome_of}
use mathlib.Core.Path.{sym, ap, ◌∙◌}
use Rattle.passed_patterns.proofs.Outputs.{for_refused, for_given}
use Rattle.passed_patterns.proofs.print_asked.Goals as goal

pub returns-in-Err : goal.returns-in-Err
returns-in-Err c =
    for_refused _ _ _
    (sym (ap outcome_of c.in-Err.is) ∙ c.generator.ensures) c.print_refusal.ensures

pub returns-in-Ok : goal.returns-in-Ok
returns-in-Ok c =
    for_given _ _ _ (sym (ap outcome_of c.in-Ok.is) ∙ c.generator.ensures) c.print_from.ensures
