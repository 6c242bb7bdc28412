-- Worked examples, and one theorem that the definitions give them. `negsuc k` is −1 − k.
use Rattle.std.specs.Prelude.{List, [], ◌∷◌, map, ◌≡◌, ℤ, pos, negsuc, Option, Some}
use Rattle.answer.specs.Outcome.{Outcome, given, refused}
use Rattle.mos_moves.specs.Moves.{Table, row}
use Rattle.layout.specs.declared.IsomorphicLayout.{IsomorphicLayout}
use Rattle.layout.specs.Examples.{layout, beginning}
use Rattle.layout_moves.specs.Answers.{get_moves, get_move_numbers}

pub record MovesExample : Type 0 where
  pub layout : IsomorphicLayout
  pub moves : Outcome (Option (Table ℤ))

abbrev pub moves_examples : List MovesExample
moves_examples =
    -- "In 12 steps, code 1, the moves are −1, 2 and 3, −5"; another start has the same
    record { layout = layout 1 12 19; moves = given (Some (row (negsuc 0) (pos 2) ∷ row (pos 3) (negsuc 4) ∷ [])) }
    ∷ record { layout = beginning 0 1 12 19; moves = given (Some (row (negsuc 0) (pos 2) ∷ row (pos 3) (negsuc 4) ∷ [])) }
    -- two cycles: the same moves, of 4 and 2 keys
    ∷ record { layout = layout 1 24 38; moves = given (Some (row (negsuc 0) (pos 2) ∷ row (pos 3) (negsuc 4) ∷ [])) }
    -- a generator above the octave: 12 and 43 give 31, which is 2 octaves and 7
    ∷ record { layout = layout 1 12 43; moves = given (Some (row (negsuc 4) (pos 2) ∷ row (pos 13) (negsuc 4) ∷ [])) }
    -- counts 4 and 3, steps 4 and 1
    ∷ record { layout = layout 5 19 30; moves = given (Some (row (negsuc 1) (pos 3) ∷ row (pos 3) (negsuc 3) ∷ [])) }
    -- the questions
    ∷ record { layout = layout 6 0 0; moves = refused 1 }
    ∷ record { layout = layout 1 0 19; moves = refused 2 }
    ∷ record { layout = layout 3 12 19; moves = refused 3 }
    ∷ record { layout = layout 0 12 19; moves = refused 4 }
    ∷ record { layout = beginning 7 1 12 19; moves = refused 18 }
    ∷ []

-- Theorem.
pub record ExamplesHold : Type 0 where
  pub tables : map (λ (e : MovesExample). get_moves e.layout) moves_examples ≡ map (λ (e : MovesExample). e.moves) moves_examples
  -- the same in a row
  pub numbers : get_move_numbers (layout 1 12 19) ≡ given (negsuc 0 ∷ pos 2 ∷ pos 3 ∷ negsuc 4 ∷ [])
  pub no_numbers : get_move_numbers (layout 0 12 19) ≡ refused 4
