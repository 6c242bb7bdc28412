-- What is printed is `output` of the whole line, by `Printed` of `streams`; here stands what the functions between ask for.
use Rattle.std.specs.Prelude.{ℕ, ◌+◌, ◌≤◌, ◌<◌, length}
use Rattle.layout.specs.declared.prepared.Prepared.{Prepared}
use Rattle.layout.specs.Layouts.{Layout}
use Rattle.layout.specs.Parts.{layout_in, Ready}
use Rattle.layout_table.specs.Tables.{line_in}

-- The lines of a table are short enough for the buffer.
abbrev pub Short : Layout → Type 0
Short l = (key : ℕ) → key < l.octave → length (line_in l key) ≤ 840

-- The lines of so many keys from one on, which fit the buffer.
pub record Lines (p : Prepared) (from count : ℕ) : Type 0 where
  pub ready : Ready p
  pub short : Short (layout_in p)
  pub inside : from + count ≤ p.found.octave
  pub few : count ≤ 78
