-- One law for each way in which a conversion ends: question 10, the converted strip.
use Prim.Native.Nat.{ℕ, ◌≤◌, ◌<◌}
use mathlib.Core.Bool.{Bool, true}
use mathlib.Core.List.{List, map}
use mathlib.Core.Path.{◌≡◌, refl, ap, ◌∙◌}
use native.Mathlib.Nat.{zero-add}
use native.Mathlib.Omega.{arith}
use lib.ListN.{length, length-map}
use Rattle.answer.specs.Outcome.{Outcome, given, refused, ask, and_then}
use Rattle.answer.specs.Lent.{held_in, Filled}
use Rattle.answer.proofs.Lent.{held, not_held, filled_refused}
use Rattle.text.specs.Writing.{Wrote}
use Rattle.text.proofs.Writing.{filled_given}
use Rattle.answer.specs.Tests.{all_of}
use Rattle.lamp_codes.specs.Answers.{converting}

module _ {A B : Type 0} (test : A → Bool) (f : A → B) (strip : List A) (xs : List B) where
  abbrev answer : Outcome (List B)
  answer = and_then (converting test f strip) (held_in (length xs))

  all_have : all_of test strip ≡ true → answer ≡ held_in (length xs) (map f strip)
  all_have e = ap (λ (b : Bool). and_then (ask 17 b (given (map f strip))) (held_in (length xs))) e

  pub no_room : all_of test strip ≡ true → length xs < length strip → Filled answer (refused 10) xs xs
  no_room e h =
      filled_refused 10 xs (all_have e ∙ not_held (length xs) (map f strip) (omega (arith, h, length-map strip f))) refl

  pub converted : {ys : List B} {n : ℕ} → all_of test strip ≡ true → length strip ≤ length xs → Wrote xs 0 (map f strip) ys n
      → Filled answer (given n) xs ys
  converted e h w =
      filled_given (all_have e ∙ held (length xs) (map f strip) (omega (arith, h, length-map strip f))) (ap given (w.end ∙ zero-add (length (map f strip))))
      (omega (arith, h, length-map strip f)) w
