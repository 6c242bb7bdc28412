-- What holds of every table and of every output. Proofs: proofs/Fitting.antt.
use Rattle.std.specs.Prelude.{ℕ, ◌*◌, ◌≤◌, ◌<◌, ◌≡◌, List, length}
use Rattle.answer.specs.Outcome.{given}
use Rattle.layout.specs.declared.IsomorphicLayout.{IsomorphicLayout}
use Rattle.layout.specs.Layouts.{Layout, Accepted}
use Rattle.layout_table.specs.Tables.{line_in, line_room, get_table, output}

-- Theorem: how much room holds every line and every table (of octaves of 16 bits), and every output: 4,096 lines of 840 bytes.
pub record TablesFit : Type 0 where
  pub line : (r : IsomorphicLayout) (l : Layout) → Accepted r l → l.octave ≤ 65535 → (key : ℕ) → key < l.octave
      → length (line_in l key) ≤ line_room l.octave
  pub table : (r : IsomorphicLayout) → r.octave ≤ 65535 → (text : List ℕ) → get_table r ≡ given text
      → length text ≤ r.octave * line_room r.octave
  pub printed : (line : List ℕ) → length (output line) ≤ 3440640
