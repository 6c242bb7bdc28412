-- Worked examples: what is printed for some lines, and one theorem that the definitions give it.
use Rattle.std.specs.Prelude.{ℕ, List, [], ◌∷◌, ◌++◌, map, ◌≡◌}
use Rattle.line.specs.Lines.{line_text}
use Rattle.line.specs.Refusals.{refusal_line}
use Rattle.layout_kbm.specs.Examples.{twelve}
use Rattle.kbm.specs.Printing.{kbm_output}

abbrev no_line : List ℕ
no_line = []

-- The file of 1 12 19, also with bytes after the line; refusals 1, 2, 3, 4; 14 for an octave above 4,096 and for no line.
abbrev pub lines : List (List ℕ)
lines =
    line_text 1 12 19
    ∷ (line_text 1 12 19 ++ (55 ∷ 10 ∷ []))
    ∷ line_text 6 12 19
    ∷ line_text 1 0 19
    ∷ line_text 3 12 19
    ∷ line_text 0 12 19
    ∷ line_text 1 4097 6000
    ∷ no_line
    ∷ []

abbrev pub outputs : List (List ℕ)
outputs = twelve ∷ twelve ∷ refusal_line 1 ∷ refusal_line 2 ∷ refusal_line 3 ∷ refusal_line 4 ∷ refusal_line 14 ∷ refusal_line 14 ∷ []

-- Theorem.
abbrev pub ExamplesHold : Type 0
ExamplesHold = map kbm_output lines ≡ outputs
