-- What the parts behind the calls promise.
use Rattle.std.specs.Prelude.{ℕ, ◌+◌, List, []}
use Rattle.layout.specs.Layouts.{Layout}
use Rattle.layout_lamps.specs.Lamps.{lamp_of, lamp_in}
use Rattle.layout_table.specs.Tables.{key_line, line_in}

-- A key's line without its name.
unfoldable pub numbers_in : Layout → ℕ → List ℕ
unfolding key_line lamp_of
numbers_in l key = key_line key [] (lamp_in l key)

-- The lines from a key on.
abbrev pub line_from : Layout → (from : ℕ) → ℕ → List ℕ
line_from l from past = line_in l (from + past)
