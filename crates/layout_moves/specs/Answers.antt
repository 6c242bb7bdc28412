-- What the calls answer: questions 1 to 4 and 18 of the layout, then the moves of its own pattern; as numbers in a slice also question 10.
use Rattle.std.specs.Prelude.{List, [], ℤ, Option, None, Some}
use Rattle.answer.specs.Outcome.{Outcome, given}
use Rattle.mos.specs.Patterns.{genesis}
use Rattle.mos.specs.Walks.{children}
use Rattle.mos_moves.specs.Moves.{Table, genesis_moves, moves_with, numbers_of}
use Rattle.layout.specs.declared.IsomorphicLayout.{IsomorphicLayout}
use Rattle.layout.specs.Layouts.{Layout, layout_outcome}
use Rattle.layout.specs.Answers.{of_layout}

-- The moves of the pattern that question 4 asks for, the first with as many steps as the chain has letters, on the walk from the genesis of
-- octave and generator.
unfoldable pub moves_in : Layout → Option (Table ℤ)
unfolding moves_with genesis_moves children
moves_in l = moves_with l.letters (children (genesis l.octave l.generator)) (genesis_moves l.octave l.generator)

unfoldable pub get_moves : IsomorphicLayout → Outcome (Option (Table ℤ))
unfolding layout_outcome moves_in
get_moves r = of_layout r (λ (l : Layout). given (moves_in l))

-- The four numbers of a table.
abbrev pub move_numbers : Option (Table ℤ) → List ℤ
move_numbers None = []
move_numbers (Some t) = numbers_of t

unfoldable pub get_move_numbers : IsomorphicLayout → Outcome (List ℤ)
unfolding layout_outcome moves_in
get_move_numbers r = of_layout r (λ (l : Layout). given (move_numbers (moves_in l)))
