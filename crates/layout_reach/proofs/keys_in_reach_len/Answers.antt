-- Questions 1 to 4 and 18, then the count.
use Rattle.answer.proofs.Passing.{passed_on}
use mathlib.Core.Path.{sym, ap, ◌∙◌}
use Rattle.layout.specs.Parts.{found_outcome}
use Rattle.layout_reach.proofs.Spans.{count_refused, count_given}
use Rattle.layout_reach.proofs.keys_in_reach_len.Goals as goal

pub returns-in_err-found : goal.returns-in_err-found
returns-in_err-found c =
    rw (passed_on _ _ c.from_residual.ensures)
    (count_refused _ _ _ (sym (ap found_outcome c.in_err-found.was) ∙ c.ask.ensures))

pub returns : goal.returns
returns c = count_given _ _ _ (sym (ap found_outcome c.in_ok-found.was) ∙ c.ask.ensures) _ c.reach_count.ensures
