-- Questions 1 to 4 and 18, then the code.
use mathlib.Core.Path.{sym, ap, ◌∙◌}
use Rattle.answer.proofs.Passing.{refusal_passed}
use Rattle.layout.specs.Parts.{found_outcome}
use Rattle.layout.proofs.Calls.{genchain_refused, genchain_given}
use Rattle.layout.proofs.IsomorphicLayout.genchain.Goals as goal

pub returns-in_err-found : goal.returns-in_err-found
returns-in_err-found c = refusal_passed _ _ c.from_residual.ensures ∙ genchain_refused _ _ (sym (ap found_outcome c.in_err-found.was) ∙ c.ask.ensures)

pub returns : goal.returns
returns c = genchain_given _ _ (sym (ap found_outcome c.in_ok-found.was) ∙ c.ask.ensures)
