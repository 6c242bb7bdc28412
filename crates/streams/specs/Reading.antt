-- "reads one line, ignores bytes after it" (document 01): which bytes are taken from standard input, and what the program's buffer then
-- holds.
use Rattle.std.specs.Prelude.{◌≡◌, ℕ, ◌<◌, min, true, false, List, [], ◌∷◌, ◌++◌, length, take, ◌==◌, nat_lt, slice_set}
use Rattle.line.specs.Lines.{line_feed}
use Rattle.streams.specs.declared.input.Input.{Input}
use Rattle.streams.specs.declared.input.LastRead.TheVariants.{Byte, End}
use Rattle.streams.specs.Streams.{longest, Taken}

-- "one line": the bytes up to and with the first line feed, or all where none comes.
unfoldable pub first_line : List ℕ → List ℕ
first_line [] = []
first_line (byte ∷ rest) = byte ∷ elim (byte == line_feed) [ true ↦ [] | false ↦ first_line rest ]

-- A buffer with the byte at a place, where that is one of the first 18.
unfoldable pub kept_in : List ℕ → ℕ → ℕ → List ℕ
kept_in buffer at byte = elim (nat_lt at longest) [ true ↦ slice_set buffer at byte | false ↦ buffer ]

-- The buffer begins with the line, or with the first 18 bytes of a longer one.
abbrev pub Begins : List ℕ → List ℕ → Type 0
Begins buffer line = take (min longest (length line)) buffer ≡ take longest line

-- What `read_line` promises.
pub record LineRead (buffer : List ℕ) (input : Input) : Type 0 where
  -- what was taken from standard input, from the first read to the last
  pub line : List ℕ
  pub count : ℕ
  pub taken : Taken line input count
  -- nothing past the first line feed
  pub one_line : first_line line ≡ line
  -- and all up to it, unless the input ended before, or 2^64 - 1 bytes came
  pub to_its_end : (input.last ≡ End → ⊥) → length line < 18446744073709551615 → input.last ≡ Byte line_feed
  pub begins : Begins buffer line
  pub kept_is : input.kept ≡ min longest (length line)

-- Theorem: an output that goes by nothing past a line feed is, for any bytes, that of their first line.
abbrev pub FirstLineIsEnough : Type 0
FirstLineIsEnough =
    (output : List ℕ → List ℕ) → ((line after : List ℕ) → output (line ++ line_feed ∷ after) ≡ output (line ++ line_feed ∷ []))
    → (bytes : List ℕ) → output (first_line bytes) ≡ output bytes

-- Theorem, of each program's output: 18 bytes of a line say what is printed for it, and the first line of any bytes what is printed for
-- them.
pub record LineIsEnough (output : List ℕ → List ℕ) : Type 0 where
  pub eighteen : (line : List ℕ) → output (take longest line) ≡ output line
  pub one_line : (bytes : List ℕ) → output (first_line bytes) ≡ output bytes
