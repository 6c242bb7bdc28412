-- What question 2 answers of a period, where `?` asks it.
use Prim.Native.Nat.{ℕ, ◌≤◌}
use mathlib.Core.Path.{◌≡◌, sym, ap, ◌∙◌}
use borrow.Author.Tests.{le-leb}
use Rattle.std.specs.Prelude.{Result, IsErr, IsErrAnd}
use Rattle.answer.specs.Outcome.{given, refused}
use Rattle.answer.specs.Refusals.{outcome_of, number_of}
use Rattle.answer.specs.declared.Refusal.{Refusal}
use Rattle.answer.specs.declared.Refusal.TheVariants.{Period}
use Rattle.answer.proofs.Passing.{refusal_passed}
use Rattle.answer.proofs.Questions.{ask_none}
use Rattle.mos.specs.declared.Mos.{Mos}
use Rattle.mos.specs.Patterns.{genesis}
use Rattle.mos.specs.Answers.{genesis_outcome}

pub period_refused : (P G : ℕ) → P ≡ 0 → refused 2 ≡ genesis_outcome P G
unfolding genesis_outcome
period_refused P G e = sym (ask_none 2 _ _ e)

pub period_passed : (P G : ℕ) {q : Refusal} (r : Result Mos Refusal) → IsErr r × IsErrAnd r (λ (e : Refusal). e ≡ q) → (q ≡ Period) × (P ≡ 0) → outcome_of r ≡ genesis_outcome P G
period_passed P G {q} r h e = refusal_passed q r h ∙ ap (λ (x : Refusal). refused (number_of x)) e.0 ∙ period_refused P G e.1

pub period_given : (P G : ℕ) {m : Mos} → 1 ≤ P → m ≡ genesis P G → given m ≡ genesis_outcome P G
unfolding genesis_outcome
period_given P G h e = simp (le-leb 1 P h, e)
