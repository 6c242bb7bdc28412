-- Worked examples: the ends of each range, and one theorem that the definitions give them.
use Rattle.std.specs.Prelude.{[], ◌∷◌, ◌≡◌}
use Rattle.answer.specs.Outcome.{given, refused}
use Rattle.lamp_codes.specs.Answers.{get_widened, get_narrowed}

pub record ExamplesHold : Type 0 where
  -- home, natural, sharp 0 and 99, flat 0 and 99, enharmonic
  pub there : get_widened (0 ∷ 1 ∷ 2 ∷ 101 ∷ 102 ∷ 201 ∷ 255 ∷ []) ≡ given (0 ∷ 1 ∷ 2 ∷ 200 ∷ 3 ∷ 201 ∷ 65535 ∷ [])
  pub back : get_narrowed (0 ∷ 1 ∷ 2 ∷ 200 ∷ 3 ∷ 201 ∷ 65535 ∷ []) ≡ given (0 ∷ 1 ∷ 2 ∷ 101 ∷ 102 ∷ 201 ∷ 255 ∷ [])
  pub none : get_widened [] ≡ given []
  pub none_back : get_narrowed [] ≡ given []
  -- "a code from 202 to 254", wherever it stands
  pub first_unused : get_widened (0 ∷ 202 ∷ []) ≡ refused 17
  pub last_unused : get_widened (254 ∷ 1 ∷ []) ≡ refused 17
  -- sharp 100, flat 32,765, and a number between
  pub sharp_100 : get_narrowed (0 ∷ 202 ∷ []) ≡ refused 17
  pub before_last : get_narrowed (65534 ∷ 1 ∷ []) ≡ refused 17
  pub widened_by_two : get_narrowed (512 ∷ []) ≡ refused 17
