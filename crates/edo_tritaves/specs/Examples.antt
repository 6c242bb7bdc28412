-- Worked examples, and one theorem that the definitions give them.
use Rattle.std.specs.Prelude.{ℕ, [], ◌∷◌, map, ◌≡◌, Option, Some, None}
use Rattle.answer.specs.Outcome.{Outcome, given, refused}
use Rattle.edo_tritaves.specs.declared.Choices.{Choices}
use Rattle.edo_tritaves.specs.Tritaves.{choice_numbers, tritaves_of}

abbrev pub of : ℕ → Option ℕ → Outcome Choices
of first second = given (record { first = first; second = second })

-- Theorem.
pub record ExamplesHold : Type 0 where
  -- "12 gives 19; 13 gives 21, then 20; 16 gives 25, then 26"
  pub cases : map tritaves_of (12 ∷ 13 ∷ 16 ∷ []) ≡ of 19 None ∷ of 21 (Some 20) ∷ of 25 (Some 26) ∷ []
  pub numbers : map choice_numbers (record { first = 19; second = None } ∷ record { first = 21; second = Some 20 } ∷ [])
      ≡ (19 ∷ []) ∷ (21 ∷ 20 ∷ []) ∷ []
  -- both ends of the range, and outside it
  pub ends : map tritaves_of (1 ∷ 400 ∷ []) ≡ of 2 (Some 1) ∷ of 634 None ∷ []
  pub outside : map tritaves_of (0 ∷ 401 ∷ 65535 ∷ []) ≡ refused 15 ∷ refused 15 ∷ refused 15 ∷ []
