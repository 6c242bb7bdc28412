-- Questions 5 and 6, then the difference of the sides.
use mathlib.Core.Path.{sym, ap, ◌∙◌}
use mir.Syntax.{w64}
use mir.ValLaws.{to_z-of_z}
use Rattle.answer.specs.Outcome.{given}
use Rattle.answer.proofs.Passing.{refusal_passed}
use Rattle.pergen.proofs.Calls.{place_refused, place_given}
use Rattle.pergen.proofs.AccidentalsFormat.get_place.Goals as goal

pub returns-in_err-asked : goal.returns-in_err-asked
returns-in_err-asked c =
    refusal_passed _ _ c.from_residual.ensures ∙ place_refused _ _ _ c.in_err-asked.ensures.answered

pub returns : goal.returns
returns c =
    ap given (to_z-of_z w64 c.difference.result (record { sfits = c.difference.type_inv }))
    ∙ place_given _ _ _ c.in_ok-asked.ensures.below
    (c.difference.ensures ∙ sym c.sides_of.ensures.difference)
