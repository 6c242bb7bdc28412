-- What holds of every line: statements; their proofs stand in proofs/.
use Rattle.std.specs.Prelude.{ℕ, ◌≤◌, List, [], ◌∷◌, ◌++◌, ◌≡◌, take}
use Rattle.answer.specs.Outcome.{given}
use Rattle.line.specs.Lines.{line_feed, line_text, line_outcome, number_line}

-- Theorem: a line that asks for three numbers is read back as these, whatever bytes come after it.
abbrev pub LinesReadBack : Type 0
LinesReadBack =
    (genchain octave tritave : ℕ) (after : List ℕ) → genchain ≤ 65535 → octave ≤ 4096 → tritave ≤ 65535
    → line_outcome (line_text genchain octave tritave ++ after) ≡ given (record { genchain = genchain; octave = octave; tritave = tritave })

-- Theorem: a reader of a line may stop at its line feed, and after 18 bytes (three times five digits, two spaces, a line feed):
-- what comes later changes nothing. A line with one number is shorter.
pub record LaterBytesIgnored : Type 0 where
  pub line_feed_lem : (line after : List ℕ) → line_outcome (line ++ line_feed ∷ after) ≡ line_outcome (line ++ line_feed ∷ [])
  pub eighteen : (line : List ℕ) → line_outcome (take 18 line) ≡ line_outcome line
  pub number_line_feed : (line after : List ℕ) → number_line (line ++ line_feed ∷ after) ≡ number_line (line ++ line_feed ∷ [])
  pub number_eighteen : (line : List ℕ) → number_line (take 18 line) ≡ number_line line
