-- Worked examples, and one theorem that the definitions give them. `negsuc k` is −1 − k.
use Rattle.std.specs.Prelude.{◌≡◌, [], ◌∷◌, pos, negsuc, None, Some}
use Rattle.answer.specs.Outcome.{given, refused}
use Rattle.mos.specs.Patterns.{mos, genesis}
use Rattle.mos.specs.Walks.{children}
use Rattle.mos_moves.specs.Moves.{row, genesis_moves, moves_with, pattern_moves}
use Rattle.mos_moves.specs.Answers.{table_after, genesis_table, nth_outcome, nth_table, get_walk_moves}

-- Theorem.
pub record ExamplesHold : Type 0 where
  -- "In 12 steps, code 1, the moves are −1, 2 and 3, −5": the generator is 7, the pattern the one with 7 steps.
  pub twelve : nth_table 12 7 3 ≡ given (Some (row (negsuc 0) (pos 2) ∷ row (pos 3) (negsuc 4) ∷ []))
  pub twelve_pattern : nth_outcome 12 7 3 ≡ given (Some (mos 5 2 2 1))
  pub twelve_found : moves_with 7 (children (genesis 12 7)) (genesis_moves 12 7) ≡ Some (row (negsuc 0) (pos 2) ∷ row (pos 3) (negsuc 4) ∷ [])
  pub twelve_told : pattern_moves 12 7 (mos 5 2 2 1) ≡ row (negsuc 0) (pos 2) ∷ row (pos 3) (negsuc 4) ∷ []
  -- the whole walk: 0, 1 and 1, −1; then −1, 2 and 1, −1, which 7 − 5 and 5 are; and so on to 5 and 7 steps of 1
  pub twelve_walk : get_walk_moves 12 7
      ≡ given
      (pos 0 ∷ pos 1 ∷ pos 1 ∷ negsuc 0
      ∷ negsuc 0 ∷ pos 2 ∷ pos 1 ∷ negsuc 0
      ∷ negsuc 0 ∷ pos 2 ∷ pos 2 ∷ negsuc 2
      ∷ negsuc 0 ∷ pos 2 ∷ pos 3 ∷ negsuc 4
      ∷ negsuc 3 ∷ pos 7 ∷ pos 3 ∷ negsuc 4
      ∷ [])
  -- a generator above the octave: 31 is 2 octaves and 7, so q is 2
  pub above : genesis_table 12 31 ≡ given (Some (row (negsuc 1) (pos 1) ∷ row (pos 3) (negsuc 0) ∷ []))
  pub above_third : nth_table 12 31 3 ≡ given (Some (row (negsuc 4) (pos 2) ∷ row (pos 13) (negsuc 4) ∷ []))
  -- the numbers furthest from 0: a period of 1 and the largest generator; the walk ends at its genesis
  pub furthest : get_walk_moves 1 65535 ≡ given (negsuc 65534 ∷ pos 1 ∷ pos 65536 ∷ negsuc 0 ∷ [])
  -- past the walk's end, and question 2
  pub none_left : nth_table 12 7 5 ≡ given None
  pub no_pattern : nth_outcome 12 7 5 ≡ given None
  pub no_period : genesis_table 0 7 ≡ refused 2
  pub no_walk : get_walk_moves 0 7 ≡ refused 2
  -- what a lent table holds then
  pub table_kept : table_after (given None) (row (pos 8) (pos 9) ∷ []) ≡ row (pos 8) (pos 9) ∷ []
