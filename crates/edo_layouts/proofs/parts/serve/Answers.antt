-- The first choice; no second; the second.
use mathlib.Core.Path.{ap, ◌∙◌}
use Rattle.answer.specs.Outcome.{refused}
use Rattle.answer.specs.Refusals.{outcome_of}
use Rattle.edo_layouts.specs.Layouts.{or_else}
use Rattle.edo_layouts.proofs.Serving.{served_first, no_second, served_second, or_refusal}
use Rattle.edo_layouts.proofs.parts.serve.Goals as goal

pub returns-in-Ok : goal.returns-in-Ok
returns-in-Ok c = served_first _ _ _ _ c.in-Ok.ensures

pub returns-in-None : goal.returns-in-None
returns-in-None c = no_second _ _ _ _ c.in-Err.ensures c.in-None.is

pub returns-in-Some : goal.returns-in-Some
returns-in-Some c =
    served_second _ _ _ _ _ _ c.in-Err.ensures c.in-Some.is
    (ap outcome_of c.or.ensures ∙ or_refusal _ _ ∙ ap (or_else (refused _)) c.try_tritave-in-Some.ensures)
