-- Questions 1 to 4 and 18, then 16, 21 and the key.
use Rattle.answer.proofs.Passing.{passed_on}
use mathlib.Core.Path.{sym, ap, ◌∙◌}
use Rattle.layout.specs.Parts.{found_outcome}
use Rattle.layout.proofs.SoundedKeys.{sounded_refused, sounded_given}
use Rattle.layout.proofs.IsomorphicLayout.get_sounded_key.Goals as goal

pub returns-in_err-found : goal.returns-in_err-found
returns-in_err-found c =
    rw (passed_on _ _ c.from_residual.ensures)
    (sounded_refused _ _ _ (sym (ap found_outcome c.in_err-found.was) ∙ c.ask.ensures))

pub returns : goal.returns
returns c = sounded_given _ _ _ (sym (ap found_outcome c.in_ok-found.was) ∙ c.ask.ensures) _ c.sounded.ensures
