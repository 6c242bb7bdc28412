-- The answers of `coprime`, by what the code tests; step is the secondary step that it found.
use Prim.Native.Nat.{ℕ}
use mathlib.Core.Path.{◌≡◌, sym, ap, ◌∙◌}
use mathlib.Core.Bool.{Bool, true, false}
use lib.Dec.{leb}
use Rattle.std.specs.Prelude.{Result, IsErr, IsErrAnd}
use Rattle.answer.specs.Outcome.{given, refused}
use Rattle.answer.specs.Refusals.{outcome_of, number_of}
use Rattle.answer.specs.declared.Refusal.{Refusal}
use Rattle.answer.specs.declared.Refusal.TheVariants.{Size}
use Rattle.answer.proofs.Passing.{refusal_passed}
use Rattle.mos.specs.declared.Mos.{Mos}
use Rattle.mos.specs.Patterns.{mos, primaries, secondaries, primary, secondary, size_of, is_pattern}
use Rattle.mos.specs.Coprime.{coprime_step, coprime_of}
use Rattle.mos.specs.Answers.{coprime_outcome}
use Rattle.mos.proofs.Sizes.{size_decides}

no_pattern : (m : Mos) → is_pattern m ≡ false → refused 7 ≡ coprime_outcome m
unfolding coprime_outcome
no_pattern m e = simp e

pub coprime_passed : (m : Mos) {q : Refusal} (r : Result Mos Refusal) → IsErr r × IsErrAnd r (λ (e : Refusal). e ≡ q) → (q ≡ Size) × (is_pattern m ≡ false)
    → outcome_of r ≡ coprime_outcome m
coprime_passed m {q} r h e = refusal_passed q r h ∙ ap (λ (x : Refusal). refused (number_of x)) e.0 ∙ no_pattern m e.1

module _ (m : Mos) (e : is_pattern m ≡ true) (step : ℕ) (is : step ≡ coprime_step (primary m) (secondary m)) {test : Bool} (t : test ≡ is_pattern (mos (primaries m) (secondaries m) (primary m) step)) where
  made : mos (primaries m) (secondaries m) (primary m) step ≡ coprime_of m
  made = ap (mos (primaries m) (secondaries m) (primary m)) is

  asked : leb (size_of (coprime_of m)) 65535 ≡ test
  asked = sym (size_decides (coprime_of m)) ∙ ap is_pattern (sym made) ∙ sym t

  pub coprime_too_large : test ≡ false → refused 8 ≡ coprime_outcome m
  unfolding coprime_outcome
  coprime_too_large f = simp (e, asked ∙ f)

  pub coprime_given : test ≡ true → given (mos (primaries m) (secondaries m) (primary m) step) ≡ coprime_outcome m
  unfolding coprime_outcome
  coprime_given f = ap given made ∙ simp (e, asked ∙ f)
