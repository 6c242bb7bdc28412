-- The line of a refusal, and what a program prints for an outcome (document 01, "Lamps and book", the last paragraph).
use Rattle.std.specs.Prelude.{ℕ, List, [], ◌∷◌, ◌++◌}
use Rattle.answer.specs.Outcome.{Outcome, given, refused}
use Rattle.text.specs.Decimal.{digits}
use Rattle.line.specs.Lines.{space, line_feed}

-- "A refusal prints only `refused`, a space and the number, and a line feed."
abbrev pub refused_word : List ℕ
refused_word = 114 ∷ 101 ∷ 102 ∷ 117 ∷ 115 ∷ 101 ∷ 100 ∷ space ∷ []

unfoldable pub refusal_line : ℕ → List ℕ
unfolding digits
refusal_line n = refused_word ++ digits n ++ (line_feed ∷ [])

abbrev pub output_of : Outcome (List ℕ) → List ℕ
output_of (given text) = text
output_of (refused n) = refusal_line n
