-- Worked examples: what is printed for some lines, and one theorem that the definitions give it.
use Rattle.std.specs.Prelude.{ℕ, List, [], ◌∷◌, ◌++◌, map, ◌≡◌}
use Rattle.line.specs.Lines.{line_text}
use Rattle.mos.specs.Patterns.{mos}
use Rattle.line.specs.Refusals.{refusal_line}
use Rattle.passed_patterns.specs.Printing.{found_word, pattern_line, pattern_lines, output}

-- 1 12 19, which the search finds; 3 12 19, which it does not; refusals 1 and 2.
abbrev pub lines : List (List ℕ)
lines = line_text 1 12 19 ∷ line_text 3 12 19 ∷ line_text 6 12 19 ∷ line_text 1 0 19 ∷ []

abbrev pub outputs : List (List ℕ)
outputs =
    (pattern_lines (mos 1 1 7 5 ∷ mos 1 2 2 5 ∷ mos 3 2 2 3 ∷ mos 5 2 2 1 ∷ []) ++ (found_word ++ pattern_line (mos 5 2 2 1)))
    ∷ refusal_line 3
    ∷ refusal_line 1
    ∷ refusal_line 2
    ∷ []

-- Theorem.
abbrev pub ExamplesHold : Type 0
ExamplesHold = map output lines ≡ outputs
