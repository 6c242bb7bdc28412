-- Questions 1 to 4 and 18, then octave and generator.
use Rattle.answer.proofs.Passing.{passed_on}
use mathlib.Core.Path.{sym, ap, ◌∙◌}
use Rattle.layout.specs.Parts.{found_outcome}
use Rattle.layout.proofs.Calls.{pergen_refused, pergen_given}
use Rattle.layout.proofs.IsomorphicLayout.pergen.Goals as goal

pub returns-in_err-found : goal.returns-in_err-found
returns-in_err-found c =
    rw (passed_on _ _ c.from_residual.ensures)
    (pergen_refused _ _ (sym (ap found_outcome c.in_err-found.was) ∙ c.ask.ensures))

pub returns : goal.returns
returns c = pergen_given _ _ (sym (ap found_outcome c.in_ok-found.was) ∙ c.ask.ensures)
