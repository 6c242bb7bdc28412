-- Worked examples of codes, of numbers, and of a slice that one number is written to; one theorem that they hold.
use Rattle.std.specs.Prelude.{[], ◌∷◌, map, ◌≡◌, pos, negsuc, None, Some}
use Rattle.answer.specs.Outcome.{given, refused}
use Rattle.mos.specs.Patterns.{mos}
use Rattle.vetchnoon_codes.specs.Codes.{code_of, one_held, one_counted, one_written}
use Rattle.vetchnoon_codes.specs.Numbers.{as_numbers, walk_numbers}

-- Theorem.
pub record ExamplesHold : Type 0 where
  pub codes : map code_of (given 0 ∷ given 8 ∷ refused 1 ∷ refused 21 ∷ []) ≡ pos 0 ∷ pos 8 ∷ negsuc 0 ∷ negsuc 20 ∷ []
  -- one number, with room for it and without
  pub one_room : one_written (one_held 2 (negsuc 4)) (pos 1 ∷ pos 2 ∷ []) ≡ negsuc 4 ∷ pos 2 ∷ []
  pub one_short : one_written (one_held 0 (negsuc 4)) [] ≡ []
  pub one_counts : map one_counted (one_held 1 (pos 3) ∷ one_held 0 (pos 3) ∷ []) ≡ given 1 ∷ refused 10 ∷ []
  -- a pattern, no pattern, and a refusal
  pub numbers : map (as_numbers walk_numbers) (given (Some (mos 5 2 2 1)) ∷ given None ∷ refused 7 ∷ [])
      ≡ given (5 ∷ 2 ∷ 2 ∷ 1 ∷ []) ∷ given [] ∷ refused 7 ∷ []
