-- Both spellings, then the stars, then their keys.
use mathlib.Core.Path.{sym, ap, ◌∙◌}
use Rattle.answer.proofs.Passing.{passed_on}
use Prim.Native.Nat.{ℕ}
use Rattle.answer.specs.declared.Refusal.{Refusal}
use Rattle.answer.specs.Refusals.{number_of}
use Rattle.answer.specs.Outcome.{refused}
use Rattle.layout.specs.Parts.{layout_of}
use Rattle.layout_reading.specs.Answers.{key_of_both}
use Rattle.layout_reading.specs.Parts.{spelling_of, typed_outcome}
use Rattle.layout_reading.proofs.Calls.{both_many, first_refused, second_refused, both_given}
use Rattle.layout_reading.proofs.reader.Reader.both.Goals as goal

pub returns-in_err-one : goal.returns-in_err-one
returns-in_err-one c =
    rw (passed_on _ _ c.from_residual.ensures) (first_refused _ _ _ _ _ (sym (ap typed_outcome c.in_err-one.was) ∙ c.starless.ensures))

pub returns-in_err-other : goal.returns-in_err-other
returns-in_err-other c =
    rw (passed_on _ _ c.from_residual-in_err-other.ensures)
    (second_refused _ _ _ _ _ (sym (ap typed_outcome c.in_ok-one.was) ∙ c.starless.ensures) _
    (sym (ap typed_outcome c.in_err-other.was) ∙ c.starless-2.ensures))

pub returns-in_err-below : goal.returns-in_err-below
returns-in_err-below c =
    rw (passed_on _ _ c.from_residual-in_err-below.ensures)
    (ap (λ (q : Refusal). refused (number_of q)) c.in_err-below.ensures.0
    ∙ both_many _ _ _ _ _ (sym (ap typed_outcome c.in_ok-one.was) ∙ c.starless.ensures) _
    (sym (ap typed_outcome c.in_ok-other.was) ∙ c.starless-2.ensures) _ c.args.self.cycles_are c.in_err-below.ensures.1)

pub returns : goal.returns
returns c =
    both_given _ _ _ _ _ (sym (ap typed_outcome c.in_ok-one.was) ∙ c.starless.ensures) _
    (sym (ap typed_outcome c.in_ok-other.was) ∙ c.starless-2.ensures) _ c.args.self.cycles_are c.in_ok-below.ensures.1 _
    (c.key_of_both.ensures
    ∙ ap (λ (n : ℕ). key_of_both (layout_of c.args.self.found) n (spelling_of c.in_ok-one.one) (spelling_of c.in_ok-other.other)) c.in_ok-below.ensures.0)
