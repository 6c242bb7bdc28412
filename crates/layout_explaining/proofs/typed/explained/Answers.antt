-- Question 23 of both, then 21 of both, then what follows.
use Prim.Native.Nat.{ℕ}
use mathlib.Core.Path.{sym, ap, ap₂, ◌∙◌}
use Rattle.answer.proofs.Passing.{passed_on}
use Rattle.answer.specs.declared.Refusal.{Refusal}
use Rattle.answer.specs.Refusals.{number_of}
use Rattle.answer.specs.Outcome.{refused}
use Rattle.layout.specs.Parts.{layout_of}
use Rattle.layout_reading.specs.Answers.{with_stars}
use Rattle.layout_reading.specs.Parts.{spelling_of, typed_outcome}
use Rattle.layout_explaining.specs.Explanations.{explanation_of}
use Rattle.layout_explaining.proofs.Calls.{first_refused, second_refused, both_typed, many_first, many_second, compared_given}
use Rattle.layout_explaining.proofs.typed.explained.Goals as goal

pub returns-in_err-one : goal.returns-in_err-one
returns-in_err-one c =
    rw (passed_on _ _ c.from_residual.ensures) (first_refused _ _ _ _ (sym (ap typed_outcome c.in_err-one.was) ∙ c.typed_spelling.ensures))

pub returns-in_err-other : goal.returns-in_err-other
returns-in_err-other c =
    rw (passed_on _ _ c.from_residual-in_err-other.ensures)
    (second_refused _ _ _ _ (sym (ap typed_outcome c.in_ok-one.was) ∙ c.typed_spelling.ensures) _
    (sym (ap typed_outcome c.in_err-other.was) ∙ c.typed_spelling-2.ensures))

pub returns-in_err-stars : goal.returns-in_err-stars
returns-in_err-stars c =
    rw (passed_on _ _ c.from_residual-in_err-stars.ensures)
    (both_typed _ _ _ _ (sym (ap typed_outcome c.in_ok-one.was) ∙ c.typed_spelling.ensures) _
    (sym (ap typed_outcome c.in_ok-other.was) ∙ c.typed_spelling-2.ensures) _
    (ap (λ (q : Refusal). refused (number_of q)) c.in_err-stars.ensures.0
    ∙ many_first _ _ _ _ c.args.reader.cycles_are c.in_err-stars.ensures.1))

pub returns-in_err-others : goal.returns-in_err-others
returns-in_err-others c =
    rw (passed_on _ _ c.from_residual-in_err-others.ensures)
    (both_typed _ _ _ _ (sym (ap typed_outcome c.in_ok-one.was) ∙ c.typed_spelling.ensures) _
    (sym (ap typed_outcome c.in_ok-other.was) ∙ c.typed_spelling-2.ensures) _
    (ap (λ (q : Refusal). refused (number_of q)) c.in_err-others.ensures.0
    ∙ many_second _ _ _ _ c.args.reader.cycles_are c.in_ok-stars.ensures.1 c.in_err-others.ensures.1))

pub returns : goal.returns
returns c =
    both_typed _ _ _ _ (sym (ap typed_outcome c.in_ok-one.was) ∙ c.typed_spelling.ensures) _
    (sym (ap typed_outcome c.in_ok-other.was) ∙ c.typed_spelling-2.ensures) _
    (compared_given _ _ _ _ c.args.reader.cycles_are c.in_ok-stars.ensures.1 c.in_ok-others.ensures.1 _
    (c.explanation.ensures
    ∙ ap₂ (explanation_of (layout_of c.args.reader.found))
    (c.with_stars.ensures ∙ ap (λ (n : ℕ). with_stars n (spelling_of c.in_ok-one.one)) c.in_ok-stars.ensures.0)
    (c.with_stars-2.ensures ∙ ap (λ (n : ℕ). with_stars n (spelling_of c.in_ok-other.other)) c.in_ok-others.ensures.0)))
