-- A retuning and its two layouts, how far it moves a note, and the table of moves (document 02, W-212).
use Rattle.std.specs.Prelude.{ℕ, max, List, [], ◌∷◌, ℤ, pos, ◌-ℤ◌}
use Rattle.text.specs.Writing.{joined}
use Rattle.pergen.specs.Spelling.{signs_of}
use Rattle.pergen.specs.declared.Spelling.{Spelling}
use Rattle.layout.specs.declared.IsomorphicLayout.{IsomorphicLayout}
use Rattle.layout.specs.Layouts.{Layout}
use Rattle.layout.specs.Names.{key_of}
use Rattle.layout_reach.specs.Reach.{distance}
use Rattle.layout_retuning.specs.declared.Retuning.{Retuning}

-- "two accepted layouts of one chain, octave and start, these three handed in once": the one before the retuning and the one after it.
abbrev pub first_of : Retuning → IsomorphicLayout
first_of t = record { genchain = t.genchain; octave = t.octave; tritave = t.from_tritave; start = t.start }

abbrev pub second_of : Retuning → IsomorphicLayout
second_of t = record { genchain = t.genchain; octave = t.octave; tritave = t.to_tritave; start = t.start }

-- "how many steps round the octave, the shorter way, the sounded key moves": of a spelling, from one layout to the other.
unfoldable pub moved : Layout → Layout → Spelling → ℕ
unfolding distance key_of
moved l m x = distance l.octave (pos (key_of l x)) (pos (key_of m x))

-- A letter's index along the chain, a signed number of signs (sharps above 0, flats below), and stars.
abbrev pub spelt : ℕ → ℤ → ℕ → Spelling
spelt letter signs stars = record { index = letter; signs = signs_of signs; stars = stars }

-- ---- "a table over all letters with up to eight sharps or flats, letter by letter along the chain, from eight flats to eight sharps"

-- Of a letter's seventeen spellings number j has j − 8 signs; no stars, on which no move depends (`MovesAre`).
abbrev pub table_spelling : ℕ → ℕ → Spelling
table_spelling letter j = spelt letter (pos j -ℤ pos 8) 0

-- The moves of a letter.
unfoldable pub letter_moves : Layout → Layout → ℕ → List ℕ
unfolding joined moved
letter_moves l m letter = joined (λ j. moved l m (table_spelling letter j) ∷ []) 17

unfoldable pub move_table : Layout → Layout → List ℕ
unfolding joined letter_moves
move_table l m = joined (letter_moves l m) l.letters

-- "the largest move in it"; a table has some move, so what a list without one has does not matter (`LargestIsTheLargest`).
unfoldable pub largest : List ℕ → ℕ
largest [] = 0
largest (x ∷ xs) = max x (largest xs)
