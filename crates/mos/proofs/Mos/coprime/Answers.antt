-- Questions 7 and 8, with the step that the passes end with.
use mathlib.Core.Path.{ap, ◌∙◌}
use Rattle.mos.specs.Answers.{coprime_outcome}
use Rattle.mos.proofs.CoprimeAnswers.{coprime_passed, coprime_too_large, coprime_given}
use Rattle.mos.proofs.Mos.coprime.Goals as goal

pub returns-in_err-mos : goal.returns-in_err-mos
returns-in_err-mos c = coprime_passed _ _ c.from_residual.ensures c.in_err-mos.ensures

pub returns-then-is_pattern : goal.returns-then-is_pattern
returns-then-is_pattern c =
    let pattern = c.in_ok-mos.field-0 in
    coprime_given pattern.mos pattern.fits _ c.coprime_step.ensures c.is_pattern.ensures c.if-is_pattern.true
    ∙ ap coprime_outcome c.in_ok-mos.ensures

pub returns-else-is_pattern : goal.returns-else-is_pattern
returns-else-is_pattern c =
    let pattern = c.in_ok-mos.field-0 in
    coprime_too_large pattern.mos pattern.fits _ c.coprime_step.ensures c.is_pattern.ensures c.if-is_pattern.false
    ∙ ap coprime_outcome c.in_ok-mos.ensures
