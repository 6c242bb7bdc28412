-- The key table (document 01, "Lamps and book", the last paragraph), as bytes.
use Rattle.std.specs.Prelude.{ℕ, ◌+◌, ◌/◌, List, [], ◌∷◌, ◌++◌}
use Rattle.answer.specs.Outcome.{Outcome, given, and_then}
use Rattle.text.specs.Writing.{joined}
use Rattle.layout_lamps.specs.Lamps.{lamp_of, lamp_in}
use Rattle.layout.specs.declared.IsomorphicLayout.{IsomorphicLayout}
use Rattle.layout.specs.Layouts.{Layout, layout_outcome}
use Rattle.layout.specs.Names.{name_in, listed_name}
use Rattle.layout.specs.Answers.{of_layout}
use Rattle.text.specs.Decimal.{digits}
use Rattle.line.specs.Lines.{space, line_feed, line_outcome}
use Rattle.line.specs.Refusals.{refusal_line, output_of}
use Rattle.line.specs.LineLayouts.{layout_on}
use Rattle.line.specs.declared.Line.{Line}

-- A key's line: "number, name, lamp code, one space between."
unfoldable pub key_line : (key : ℕ) (name : List ℕ) (lamp : ℕ) → List ℕ
unfolding digits
key_line key name lamp = digits key ++ (space ∷ []) ++ name ++ (space ∷ []) ++ digits lamp ++ (line_feed ∷ [])

-- The line of a key of the octave.
unfoldable pub line_in : Layout → (key : ℕ) → List ℕ
unfolding key_line name_in lamp_of
line_in l key = key_line key (listed_name l key) (lamp_in l key)

-- "a line per key from 0 to octave − 1 .. No header."
unfoldable pub table_in : Layout → List ℕ
unfolding joined line_in
table_in l = joined (line_in l) l.octave

-- The most bytes that a line has in a table of so many keys (`TablesFit`): a name has at most 7 and, together, at most octave / 5 + 1 signs
-- and stars; beside it stand two numbers of at most five digits, two spaces and a line feed.
abbrev pub line_room : ℕ → ℕ
line_room octave = octave / 5 + 21

-- Questions 1 to 4 and 18, then the table; question 9 is not asked any more (document 02, W-207).
unfoldable pub get_table : IsomorphicLayout → Outcome (List ℕ)
unfolding layout_outcome table_in
get_table r = of_layout r (λ (l : Layout). given (table_in l))

-- "The key table program reads one line, ignores bytes after it": question 14, then the table of the layout.
unfoldable pub line_table : List ℕ → Outcome (List ℕ)
unfolding line_outcome get_table
line_table line = and_then (line_outcome line) (λ (a : Line). get_table (layout_on a))

-- What the program prints.
unfoldable pub output : List ℕ → List ℕ
unfolding line_table refusal_line
output line = output_of (line_table line)
