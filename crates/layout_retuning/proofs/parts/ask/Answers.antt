-- The first layout's questions, then the second's.
use mathlib.Core.Path.{sym, ap, ◌∙◌}
use Rattle.answer.proofs.Passing.{passed_on}
use Rattle.layout.specs.Parts.{found_outcome}
use Rattle.layout.specs.Layouts.{layout_outcome}
use Rattle.layout_retuning.proofs.BothLayouts.{refused_first, refused_second, both_found, tuned}
use Rattle.layout_retuning.proofs.parts.ask.Goals as goal

pub returns-in_err-one : goal.returns-in_err-one
returns-in_err-one c =
    rw (passed_on _ _ c.from_residual.ensures)
    (refused_first _ _ (sym (ap found_outcome c.in_err-one.was) ∙ c.ask.ensures ∙ ap layout_outcome c.layout_at.ensures))

pub returns-in_err-other : goal.returns-in_err-other
returns-in_err-other c =
    rw (passed_on _ _ c.from_residual-in_err-other.ensures)
    (refused_second _ _
    (sym (ap found_outcome c.in_ok-one.was) ∙ c.ask.ensures ∙ ap layout_outcome c.layout_at.ensures)
    _ (sym (ap found_outcome c.in_err-other.was) ∙ c.ask-2.ensures ∙ ap layout_outcome c.layout_at-2.ensures))

pub returns : goal.returns
returns c =
    both_found _ _
    (sym (ap found_outcome c.in_ok-one.was) ∙ c.ask.ensures ∙ ap layout_outcome c.layout_at.ensures)
    _ (sym (ap found_outcome c.in_ok-other.was) ∙ c.ask-2.ensures ∙ ap layout_outcome c.layout_at-2.ensures)

pub invariant_of-result : goal.invariant_of-result
invariant_of-result c =
    let t =
    tuned _ _
    (both_found _ _
    (sym (ap found_outcome c.in_ok-one.was) ∙ c.ask.ensures ∙ ap layout_outcome c.layout_at.ensures)
    _ (sym (ap found_outcome c.in_ok-other.was) ∙ c.ask-2.ensures ∙ ap layout_outcome c.layout_at-2.ensures)) in
    record { positive = t.positive; few_letters = t.few_letters }
