-- What holds of the output for every line: statements; their proofs stand in proofs/.
use Rattle.std.specs.Prelude.{ℕ, List, [], ◌∷◌, ◌++◌, ◌≡◌, take}
use Rattle.line.specs.Lines.{line_feed}
use Rattle.edo_lines.specs.Lines.{output}

-- Theorem: a reader of a line may stop at its line feed, and after 18 bytes.
pub record LaterBytesChangeNothing : Type 0 where
  pub line_feed_lem : (line after : List ℕ) → output (line ++ line_feed ∷ after) ≡ output (line ++ line_feed ∷ [])
  pub eighteen : (line : List ℕ) → output (take 18 line) ≡ output line
