-- Questions 1 to 3 by `generator`, question 4 by the walk, then 18.
use Rattle.answer.proofs.Passing.{passed_on}
use Rattle.answer.specs.Refusals.{outcome_of}
use mathlib.Core.Path.{sym, ap, ◌∙◌}
use Rattle.layout.specs.Parts.{found_outcome}
use Rattle.layout.proofs.Finding.{ask_refused, ask_given}
use Rattle.layout.proofs.questions.ask_with_letters.Goals as goal

pub with_pattern-requires : goal.with_pattern-requires
with_pattern-requires c = (c.requires, sym c.generator.ensures ∙ ap outcome_of c.in_ok-generator.was)

pub returns-in_err-generator : goal.returns-in_err-generator
returns-in_err-generator c =
    ap found_outcome (passed_on _ _ c.from_residual.ensures)
    ∙ ask_refused _ _ (sym (ap outcome_of c.in_err-generator.was) ∙ c.generator.ensures)

pub returns : goal.returns
returns c =
    ask_given _ _ _ (sym (ap outcome_of c.in_ok-generator.was) ∙ c.generator.ensures)
    c.with_pattern.ensures
