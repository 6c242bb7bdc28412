-- Questions 1 to 4 and 18, then 10 of either list and the entries.
use Rattle.answer.proofs.Passing.{passed_on}
use mathlib.Core.Path.{sym, ap, ◌∙◌}
use Rattle.layout.specs.Parts.{found_outcome}
use Rattle.layout.proofs.Calls.{ready_given}
use Rattle.layout_order.proofs.Ordering.{call_refused, call_given}
use Rattle.layout_order.proofs.parts.rearrange.Goals as goal

pub returns-in_err-found : goal.returns-in_err-found
returns-in_err-found c =
    rw (passed_on _ _ c.from_residual.ensures)
    (call_refused _ _ _ _ _ (sym (ap found_outcome c.in_err-found.was) ∙ c.ask.ensures))

pub returns : goal.returns
returns c =
    let e = sym (ap found_outcome c.in_ok-found.was) ∙ c.ask.ensures in
    let prepared = c.prepare-prepared in
    call_given _ _ _ _ _ (ready_given _ _ e prepared.result prepared.ensures.1) c.write_order.ensures
