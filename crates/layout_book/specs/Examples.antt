-- Worked examples: whole books, and a refusal for each question that is asked of a layout; one theorem that the definitions give them.
use Rattle.std.specs.Prelude.{ℕ, List, [], ◌∷◌, map, ◌≡◌}
use Rattle.answer.specs.Outcome.{Outcome, given, refused}
use Rattle.layout.specs.declared.IsomorphicLayout.{IsomorphicLayout}
use Rattle.layout.specs.Examples.{layout}
use Rattle.layout_book.specs.LayoutBooks.{get_book}

-- Five letters: D E G A C. The count, five pairs, the text.
abbrev pub five_keys : List ℕ
five_keys =
    5 ∷ 0 ∷ 0 ∷ 0
    ∷ 44 ∷ 0 ∷ 0 ∷ 0 ∷ 1 ∷ 0 ∷ 0 ∷ 0
    ∷ 45 ∷ 0 ∷ 0 ∷ 0 ∷ 1 ∷ 0 ∷ 0 ∷ 0
    ∷ 46 ∷ 0 ∷ 0 ∷ 0 ∷ 1 ∷ 0 ∷ 0 ∷ 0
    ∷ 47 ∷ 0 ∷ 0 ∷ 0 ∷ 1 ∷ 0 ∷ 0 ∷ 0
    ∷ 48 ∷ 0 ∷ 0 ∷ 0 ∷ 1 ∷ 0 ∷ 0 ∷ 0
    ∷ 68 ∷ 69 ∷ 71 ∷ 65 ∷ 67 ∷ []

-- Seven keys: D E E+/G- G A A+/C- C.
abbrev pub seven_keys : List ℕ
seven_keys =
    7 ∷ 0 ∷ 0 ∷ 0
    ∷ 60 ∷ 0 ∷ 0 ∷ 0 ∷ 1 ∷ 0 ∷ 0 ∷ 0
    ∷ 61 ∷ 0 ∷ 0 ∷ 0 ∷ 1 ∷ 0 ∷ 0 ∷ 0
    ∷ 62 ∷ 0 ∷ 0 ∷ 0 ∷ 5 ∷ 0 ∷ 0 ∷ 0
    ∷ 67 ∷ 0 ∷ 0 ∷ 0 ∷ 1 ∷ 0 ∷ 0 ∷ 0
    ∷ 68 ∷ 0 ∷ 0 ∷ 0 ∷ 1 ∷ 0 ∷ 0 ∷ 0
    ∷ 69 ∷ 0 ∷ 0 ∷ 0 ∷ 5 ∷ 0 ∷ 0 ∷ 0
    ∷ 74 ∷ 0 ∷ 0 ∷ 0 ∷ 1 ∷ 0 ∷ 0 ∷ 0
    ∷ 68 ∷ 69 ∷ 69 ∷ 43 ∷ 47 ∷ 71 ∷ 45 ∷ 71 ∷ 65 ∷ 65 ∷ 43 ∷ 47 ∷ 67 ∷ 45 ∷ 67 ∷ []

abbrev pub layouts : List IsomorphicLayout
layouts = layout 2 5 8 ∷ layout 2 7 11 ∷ layout 6 5 8 ∷ layout 2 0 8 ∷ layout 2 5 3 ∷ layout 0 12 19 ∷ []

abbrev pub books : List (Outcome (List ℕ))
books = given five_keys ∷ given seven_keys ∷ refused 1 ∷ refused 2 ∷ refused 3 ∷ refused 4 ∷ []

-- Theorem: each layout has the book, or the refusal, that stands at its place.
abbrev pub ExamplesHold : Type 0
ExamplesHold = map get_book layouts ≡ books
