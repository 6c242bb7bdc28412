-- A spelling, and whether its stars are below the cycles.
use mathlib.Core.Path.{sym, ap, ◌∙◌}
use Prim.Native.Nat.{ℕ}
use Rattle.answer.proofs.Passing.{passed_on}
use Rattle.answer.specs.declared.Refusal.{Refusal}
use Rattle.answer.specs.Refusals.{number_of}
use Rattle.answer.specs.Outcome.{given, refused}
use Rattle.layout_reading.specs.Answers.{with_stars}
use Rattle.layout_reading.specs.Parts.{spelling_of, typed_outcome}
use Rattle.layout_reading.proofs.Calls.{read_many, read_refused, read_given}
use Rattle.layout_reading.proofs.reader.Reader.read.Goals as goal

pub returns-in_err-t : goal.returns-in_err-t
returns-in_err-t c =
    rw (passed_on _ _ c.from_residual.ensures) (read_refused _ _ _ (sym (ap typed_outcome c.in_err-t.was) ∙ c.typed_spelling.ensures))

pub returns-in_err-stars : goal.returns-in_err-stars
returns-in_err-stars c =
    rw (passed_on _ _ c.from_residual-in_err-stars.ensures)
    (ap (λ (q : Refusal). refused (number_of q)) c.in_err-stars.ensures.0
    ∙ read_many _ _ _ (sym (ap typed_outcome c.in_ok-t.was) ∙ c.typed_spelling.ensures) _ c.args.self.cycles_are c.in_err-stars.ensures.1)

pub returns : goal.returns
returns c =
    ap given (c.with_stars.ensures ∙ ap (λ (n : ℕ). with_stars n (spelling_of c.in_ok-t.t)) c.in_ok-stars.ensures.0)
    ∙ read_given _ _ _ (sym (ap typed_outcome c.in_ok-t.was) ∙ c.typed_spelling.ensures) _ c.args.self.cycles_are c.in_ok-stars.ensures.1
