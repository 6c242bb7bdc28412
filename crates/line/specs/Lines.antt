-- The program's line (document 01, question 14): "is the line three decimal numbers (chain code, octave, tritave) of 1 to 5 digits,
-- each at most 65,535, one space between and a line feed after, octave at most 4,096?" Bytes after the line feed are ignored.
use Rattle.std.specs.Prelude.{ℕ, ◌+◌, Bool, ◌&&◌, List, [], ◌∷◌, ◌++◌, get_or, leb, eqb}
use Rattle.answer.specs.Outcome.{Outcome, given, ask}
use Rattle.answer.specs.Choice.{pick}
use Rattle.text.specs.Decimal.{digits, value_at, end_at, is_number}
use Rattle.line.specs.declared.Line.{Line}
use Rattle.std.specs.Prelude.{Option, None}
use Rattle.text.specs.Decimal.{numeral}

-- ---- one number

-- "decimal numbers .. of 1 to 5 digits, each at most 65,535", with the byte `behind` right behind.
unfoldable pub is_field : List ℕ → ℕ → ℕ → Bool
unfolding is_number end_at
is_field line at behind = is_number line at && eqb (get_or line (end_at line at) 0) behind

-- ---- the line

-- "one space between and a line feed after"
abbrev pub space : ℕ
space = 32

abbrev pub line_feed : ℕ
line_feed = 10

-- Each next number begins behind one space.
unfoldable pub octave_at : List ℕ → ℕ
unfolding end_at
octave_at line = end_at line 0 + 1

unfoldable pub tritave_at : List ℕ → ℕ
unfolding end_at octave_at
tritave_at line = end_at line (octave_at line) + 1

-- 14, whole.
unfoldable pub is_line : List ℕ → Bool
unfolding is_field octave_at tritave_at value_at
is_line line =
    is_field line 0 space
    && is_field line (octave_at line) space
    && is_field line (tritave_at line) line_feed
    && leb (value_at line (octave_at line)) 4096

-- "chain code, octave, tritave"
unfoldable pub line_outcome : List ℕ → Outcome Line
unfolding is_line value_at octave_at tritave_at
line_outcome line =
    ask 14 (is_line line)
    (given
    (record { genchain = value_at line 0; octave = value_at line (octave_at line); tritave = value_at line (tritave_at line) }))

-- The line that asks for three numbers.
unfoldable pub line_text : ℕ → ℕ → ℕ → List ℕ
unfolding digits
line_text genchain octave tritave =
    digits genchain ++ (space ∷ []) ++ digits octave ++ (space ∷ []) ++ digits tritave ++ (line_feed ∷ [])

-- ---- a number alone on its line (document 02, W-202: "Schools type only "31"")

-- 14: a number as above, and the line feed right behind it.
unfoldable pub number_line : List ℕ → Outcome ℕ
unfolding is_field value_at
number_line line = ask 14 (is_field line 0 line_feed) (given (value_at line 0))

-- ---- what the part behind the calls promises

-- A number, and the place after the byte behind it.
unfoldable pub field_at : List ℕ → ℕ → ℕ → Option (ℕ × ℕ)
unfolding is_field value_at end_at
field_at line at behind = pick (is_field line at behind) (numeral (value_at line at) (end_at line at + 1)) None
