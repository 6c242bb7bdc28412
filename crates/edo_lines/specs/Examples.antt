-- Worked examples, and one theorem that the definitions give them.
use Rattle.std.specs.Prelude.{◌≡◌, [], ◌∷◌}
use Rattle.edo_lines.specs.Lines.{output}

-- Theorem.
pub record ExamplesHold : Type 0 where
  -- "12" gives "1 12 19 Meantone[7] diatonic" and "2 12 19 Meantone[5] pentic"
  pub twelve : output (49 ∷ 50 ∷ 10 ∷ [])
      ≡ 49 ∷ 32 ∷ 49 ∷ 50 ∷ 32 ∷ 49 ∷ 57 ∷ 32 ∷ 77 ∷ 101 ∷ 97 ∷ 110 ∷ 116 ∷ 111 ∷
      110 ∷ 101 ∷ 91 ∷ 55 ∷ 93 ∷ 32 ∷ 100 ∷ 105 ∷ 97 ∷ 116 ∷ 111 ∷ 110 ∷ 105 ∷ 99 ∷ 10 ∷
      50 ∷ 32 ∷ 49 ∷ 50 ∷ 32 ∷ 49 ∷ 57 ∷ 32 ∷ 77 ∷ 101 ∷ 97 ∷ 110 ∷ 116 ∷ 111 ∷
      110 ∷ 101 ∷ 91 ∷ 53 ∷ 93 ∷ 32 ∷ 112 ∷ 101 ∷ 110 ∷ 116 ∷ 105 ∷ 99 ∷ 10 ∷ []
  -- "2" gives no line
  pub two : output (50 ∷ 10 ∷ []) ≡ []
  -- "401" gives "refused 15", "0" too, and a line without a line feed "refused 14"
  pub too_many : output (52 ∷ 48 ∷ 49 ∷ 10 ∷ []) ≡ 114 ∷ 101 ∷ 102 ∷ 117 ∷ 115 ∷ 101 ∷ 100 ∷ 32 ∷ 49 ∷ 53 ∷ 10 ∷ []
  pub none : output (48 ∷ 10 ∷ []) ≡ 114 ∷ 101 ∷ 102 ∷ 117 ∷ 115 ∷ 101 ∷ 100 ∷ 32 ∷ 49 ∷ 53 ∷ 10 ∷ []
  pub no_number : output (49 ∷ 50 ∷ []) ≡ 114 ∷ 101 ∷ 102 ∷ 117 ∷ 115 ∷ 101 ∷ 100 ∷ 32 ∷ 49 ∷ 52 ∷ 10 ∷ []
