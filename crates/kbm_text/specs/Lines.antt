-- The lines of a text: "Each stands on a line of its own, ended by a line feed." 10 is the line feed.
use Rattle.std.specs.Prelude.{ℕ, ◌-◌, Bool, true, false, ◌&&◌, not, List, [], ◌∷◌, ◌++◌, length, get_or, eqb}

-- Bytes put before the first of some lines. Where there is no line, they are on none.
abbrev pub onto_first : List ℕ → List (List ℕ) → List (List ℕ)
onto_first bytes [] = []
onto_first bytes (line ∷ rest) = (bytes ++ line) ∷ rest

-- What stands before each line feed: a byte belongs to the line that the next line feed ends. `LinesAreTheText` says that these are the
-- lines.
unfoldable pub lines : List ℕ → List (List ℕ)
lines [] = []
lines (byte ∷ rest) = elim (eqb byte 10) [ true ↦ [] ∷ lines rest | false ↦ onto_first (byte ∷ []) (lines rest) ]

-- "Bytes after the last line feed are a line left over": there are none where the last byte, if there is one, is a line feed.
unfoldable pub is_closed : List ℕ → Bool
is_closed text = eqb (get_or text (length text - 1) 10) 10

-- ---- back from lines to their text

-- Lines, each ended by a line feed.
unfoldable pub ended : List (List ℕ) → List ℕ
ended [] = []
ended (line ∷ rest) = line ++ 10 ∷ ended rest

-- No line feed among some bytes, and in none of some lines.
unfoldable pub no_feed : List ℕ → Bool
no_feed [] = true
no_feed (byte ∷ rest) = not (eqb byte 10) && no_feed rest

unfoldable pub no_feeds : List (List ℕ) → Bool
unfolding no_feed
no_feeds [] = true
no_feeds (line ∷ rest) = no_feed line && no_feeds rest
