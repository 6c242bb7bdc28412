-- Worked examples: the table that document 01 prints in full, and what is printed for lines that are refused; one theorem.
use Rattle.std.specs.Prelude.{ℕ, List, [], ◌∷◌, ◌++◌, map, ◌≡◌}
use Rattle.line.specs.Lines.{line_text}
use Rattle.answer.specs.Outcome.{given}
use Rattle.layout.specs.Answers.{of_layout}
use Rattle.layout.specs.Examples.{layout}
use Rattle.layout.specs.Layouts.{Layout}
use Rattle.layout_table.specs.Tables.{line_in, output}
use Rattle.line.specs.Refusals.{refusal_line}

-- "For `1 12 19` it prints": a row for each key, from 0 D 0 to 11 C#/Db 65535; the code is of two bytes (document 02, W-207).
abbrev pub twelve : List ℕ
twelve =
    48 ∷ 32 ∷ 68 ∷ 32 ∷ 48 ∷ 10
    ∷ 49 ∷ 32 ∷ 68 ∷ 35 ∷ 47 ∷ 69 ∷ 98 ∷ 32 ∷ 54 ∷ 53 ∷ 53 ∷ 51 ∷ 53 ∷ 10
    ∷ 50 ∷ 32 ∷ 69 ∷ 32 ∷ 49 ∷ 10
    ∷ 51 ∷ 32 ∷ 70 ∷ 32 ∷ 49 ∷ 10
    ∷ 52 ∷ 32 ∷ 70 ∷ 35 ∷ 47 ∷ 71 ∷ 98 ∷ 32 ∷ 54 ∷ 53 ∷ 53 ∷ 51 ∷ 53 ∷ 10
    ∷ 53 ∷ 32 ∷ 71 ∷ 32 ∷ 49 ∷ 10
    ∷ 54 ∷ 32 ∷ 71 ∷ 35 ∷ 47 ∷ 65 ∷ 98 ∷ 32 ∷ 54 ∷ 53 ∷ 53 ∷ 51 ∷ 53 ∷ 10
    ∷ 55 ∷ 32 ∷ 65 ∷ 32 ∷ 49 ∷ 10
    ∷ 56 ∷ 32 ∷ 65 ∷ 35 ∷ 47 ∷ 66 ∷ 98 ∷ 32 ∷ 54 ∷ 53 ∷ 53 ∷ 51 ∷ 53 ∷ 10
    ∷ 57 ∷ 32 ∷ 66 ∷ 32 ∷ 49 ∷ 10
    ∷ 49 ∷ 48 ∷ 32 ∷ 67 ∷ 32 ∷ 49 ∷ 10
    ∷ 49 ∷ 49 ∷ 32 ∷ 67 ∷ 35 ∷ 47 ∷ 68 ∷ 98 ∷ 32 ∷ 54 ∷ 53 ∷ 53 ∷ 51 ∷ 53 ∷ 10
    ∷ []

abbrev no_line : List ℕ
no_line = []

-- The first again with bytes after its line feed; then refusals 1, 2, 3, 4, and 14 for an octave above 4,096 and for no line at all.
abbrev pub lines : List (List ℕ)
lines =
    line_text 1 12 19
    ∷ (line_text 1 12 19 ++ (55 ∷ 10 ∷ []))
    ∷ line_text 6 12 19
    ∷ line_text 1 0 19
    ∷ line_text 3 12 19
    ∷ line_text 0 12 19
    ∷ line_text 1 4097 6000
    ∷ no_line
    ∷ []

abbrev pub outputs : List (List ℕ)
outputs =
    twelve
    ∷ twelve
    ∷ refusal_line 1
    ∷ refusal_line 2
    ∷ refusal_line 3
    ∷ refusal_line 4
    ∷ refusal_line 14
    ∷ refusal_line 14
    ∷ []

-- Theorem: for each line the output is what stands at its place; and a refusal's line reads "refused 14".
pub record ExamplesHold : Type 0 where
  pub printed : map output lines ≡ outputs
  -- "document 01's 2400-step example gets its strip", and so its table: two of its lines, "0 D 0" and "200 (D#/Eb) 65535"
  pub long : of_layout (layout 1 2400 3800) (λ (l : Layout). given (line_in l 0 ++ line_in l 200))
      ≡ given (48 ∷ 32 ∷ 68 ∷ 32 ∷ 48 ∷ 10 ∷ 50 ∷ 48 ∷ 48 ∷ 32 ∷ 40 ∷ 68 ∷ 35 ∷ 47 ∷ 69 ∷ 98 ∷ 41 ∷ 32 ∷ 54 ∷ 53 ∷ 53 ∷ 51 ∷ 53 ∷ 10 ∷ [])
  pub refusal : refusal_line 14 ≡ 114 ∷ 101 ∷ 102 ∷ 117 ∷ 115 ∷ 101 ∷ 100 ∷ 32 ∷ 49 ∷ 52 ∷ 10 ∷ []
