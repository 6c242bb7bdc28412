-- Questions 1 to 4 and 18, then the strip of the plan.
use Rattle.answer.proofs.Passing.{passed_on}
use mathlib.Core.Path.{sym, ap, ◌∙◌}
use Rattle.layout.specs.Parts.{found_outcome}
use Rattle.layout_lamps.proofs.Calls.{strip_refused, strip_not_written, strip_written}
use Rattle.layout_lamps.proofs.lamp_strip.Goals as goal

pub returns-in_err-found : goal.returns-in_err-found
returns-in_err-found c =
    rw (passed_on _ _ c.from_residual.ensures)
    (strip_not_written _ _ (strip_refused _ _ (sym (ap found_outcome c.in_err-found.was) ∙ c.ask.ensures)) _)

pub returns : goal.returns
returns c =
    let e = sym (ap found_outcome c.in_ok-found.was) ∙ c.ask.ensures in
    strip_written _ _ e _ c.plan_of.ensures c.write_strip.ensures
