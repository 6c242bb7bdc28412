-- Worked examples, and one theorem that the definitions give them.
use Rattle.std.specs.Prelude.{ℕ, List, [], ◌∷◌, map, ◌≡◌}
use Rattle.answer.specs.Outcome.{Outcome, given, refused}
use Rattle.pergen.specs.declared.Signs.TheVariants.{Sharps, Flats}
use Rattle.pergen.specs.declared.Spelling.{Spelling}
use Rattle.layout.specs.Examples.{layout, beginning, spelt}
use Rattle.layout.specs.declared.IsomorphicLayout.{IsomorphicLayout}
use Rattle.layout_reading.specs.Answers.{get_spelling, get_named_key}

pub record SpellingExample : Type 0 where
  pub layout : IsomorphicLayout
  pub text : List ℕ
  pub outcome : Outcome Spelling

abbrev pub spelling_examples : List SpellingExample
spelling_examples =
    -- F# and Gb; B, and B with a flat
    record { layout = layout 1 12 19; text = 70 ∷ 35 ∷ []; outcome = given (spelt 0 (Sharps 1) 0) }  -- F#
    ∷ record { layout = layout 1 12 19; text = 71 ∷ 98 ∷ []; outcome = given (spelt 2 (Flats 1) 0) }  -- Gb
    ∷ record { layout = layout 1 12 19; text = 66 ∷ []; outcome = given (spelt 6 (Sharps 0) 0) }  -- B
    ∷ record { layout = layout 1 12 19; text = 66 ∷ 98 ∷ []; outcome = given (spelt 6 (Flats 1) 0) }  -- Bb
    -- on no cap; with a star
    ∷ record { layout = layout 1 12 19; text = 70 ∷ 35 ∷ 35 ∷ 35 ∷ []; outcome = given (spelt 0 (Sharps 3) 0) }  -- F###
    ∷ record { layout = layout 1 24 38; text = 67 ∷ 35 ∷ 35 ∷ 42 ∷ []; outcome = given (spelt 1 (Sharps 2) 1) }  -- C##*
    -- letters of two bytes; an eighth letter; - and + where the primary step is the shorter
    ∷ record { layout = layout 0 16 25; text = 206 ∷ 178 ∷ 98 ∷ []; outcome = given (spelt 0 (Flats 1) 0) }  -- βb
    ∷ record { layout = layout 0 16 25; text = 207 ∷ 134 ∷ 35 ∷ 35 ∷ []; outcome = given (spelt 8 (Sharps 2) 0) }  -- φ##
    ∷ record { layout = layout 3 15 24; text = 72 ∷ []; outcome = given (spelt 7 (Sharps 0) 0) }  -- H
    ∷ record { layout = layout 1 16 25; text = 69 ∷ 45 ∷ 45 ∷ []; outcome = given (spelt 5 (Sharps 2) 0) }  -- E--
    ∷ record { layout = layout 1 16 25; text = 68 ∷ 43 ∷ []; outcome = given (spelt 3 (Flats 1) 0) }  -- D+
    -- no text; lower case; a letter of another chain, of one byte or two; half of β, and β with a false half
    ∷ record { layout = layout 1 12 19; text = []; outcome = refused 23 }
    ∷ record { layout = layout 1 12 19; text = 102 ∷ 35 ∷ []; outcome = refused 23 }  -- f#
    ∷ record { layout = layout 1 12 19; text = 72 ∷ []; outcome = refused 23 }  -- H
    ∷ record { layout = layout 1 12 19; text = 206 ∷ 178 ∷ []; outcome = refused 23 }  -- β
    ∷ record { layout = layout 0 16 25; text = 206 ∷ []; outcome = refused 23 }
    ∷ record { layout = layout 0 16 25; text = 206 ∷ 50 ∷ []; outcome = refused 23 }
    -- both kinds of signs; a sign in front; a star before a sign; a byte left over; the other layout's signs
    ∷ record { layout = layout 1 12 19; text = 70 ∷ 35 ∷ 98 ∷ []; outcome = refused 23 }  -- F#b
    ∷ record { layout = layout 1 12 19; text = 35 ∷ 70 ∷ []; outcome = refused 23 }  -- #F
    ∷ record { layout = layout 1 24 38; text = 68 ∷ 42 ∷ 35 ∷ []; outcome = refused 23 }  -- D*#
    ∷ record { layout = layout 1 12 19; text = 68 ∷ 32 ∷ []; outcome = refused 23 }  -- D
    ∷ record { layout = layout 1 16 25; text = 70 ∷ 35 ∷ []; outcome = refused 23 }  -- F#
    ∷ record { layout = layout 1 12 19; text = 68 ∷ 43 ∷ []; outcome = refused 23 }  -- D+
    -- a name with two spellings is no spelling's; stars that are not below the cycles; 23 before 21
    ∷ record { layout = layout 1 12 19; text = 68 ∷ 35 ∷ 47 ∷ 69 ∷ 98 ∷ []; outcome = refused 23 }  -- D#/Eb
    ∷ record { layout = layout 1 12 19; text = 68 ∷ 42 ∷ []; outcome = refused 21 }  -- D*
    ∷ record { layout = layout 1 24 38; text = 68 ∷ 42 ∷ 42 ∷ []; outcome = refused 21 }  -- D**
    ∷ record { layout = layout 1 12 19; text = 68 ∷ 42 ∷ 35 ∷ []; outcome = refused 23 }  -- D*#
    -- the layout's questions go first
    ∷ record { layout = layout 6 0 0; text = 98 ∷ []; outcome = refused 1 }  -- b
    ∷ record { layout = layout 1 0 19; text = 98 ∷ []; outcome = refused 2 }  -- b
    ∷ record { layout = layout 1 12 11; text = 98 ∷ []; outcome = refused 3 }  -- b
    ∷ record { layout = layout 2 4 6; text = 98 ∷ []; outcome = refused 4 }  -- b
    ∷ record { layout = beginning 7 1 12 19; text = 98 ∷ []; outcome = refused 18 }  -- b
    ∷ []

pub record KeyExample : Type 0 where
  pub layout : IsomorphicLayout
  pub text : List ℕ
  pub outcome : Outcome ℕ

abbrev pub key_examples : List KeyExample
key_examples =
    -- F# and Gb: one key in 12 steps, two in 31
    record { layout = layout 1 12 19; text = 70 ∷ 35 ∷ []; outcome = given 4 }  -- F#
    ∷ record { layout = layout 1 12 19; text = 71 ∷ 98 ∷ []; outcome = given 4 }  -- Gb
    ∷ record { layout = layout 1 31 49; text = 70 ∷ 35 ∷ []; outcome = given 10 }  -- F#
    ∷ record { layout = layout 1 31 49; text = 71 ∷ 98 ∷ []; outcome = given 11 }  -- Gb
    -- a name, its spellings in the other order, two that no cap bears together, one twice
    ∷ record { layout = layout 1 12 19; text = 68 ∷ 35 ∷ 47 ∷ 69 ∷ 98 ∷ []; outcome = given 1 }  -- D#/Eb
    ∷ record { layout = layout 1 12 19; text = 69 ∷ 98 ∷ 47 ∷ 68 ∷ 35 ∷ []; outcome = given 1 }  -- Eb/D#
    ∷ record { layout = layout 1 12 19; text = 67 ∷ 35 ∷ 35 ∷ 47 ∷ 68 ∷ []; outcome = given 0 }  -- C##/D
    ∷ record { layout = layout 1 12 19; text = 68 ∷ 47 ∷ 68 ∷ []; outcome = given 0 }  -- D/D
    -- two cycles: D and its neighbour; names with two spellings
    ∷ record { layout = layout 1 24 38; text = 68 ∷ []; outcome = given 0 }  -- D
    ∷ record { layout = layout 1 24 38; text = 68 ∷ 42 ∷ []; outcome = given 1 }  -- D*
    ∷ record { layout = layout 1 24 38; text = 40 ∷ 68 ∷ 35 ∷ 47 ∷ 69 ∷ 98 ∷ 41 ∷ []; outcome = given 2 }  -- (D#/Eb)
    ∷ record { layout = layout 1 24 38; text = 40 ∷ 68 ∷ 35 ∷ 47 ∷ 69 ∷ 98 ∷ 41 ∷ 42 ∷ []; outcome = given 3 }  -- (D#/Eb)*
    -- - and +; letters of two bytes; another start
    ∷ record { layout = layout 1 16 25; text = 68 ∷ 43 ∷ 47 ∷ 69 ∷ 45 ∷ []; outcome = given 1 }  -- D+/E-
    ∷ record { layout = layout 0 16 25; text = 206 ∷ 178 ∷ []; outcome = given 12 }  -- β
    ∷ record { layout = layout 0 16 25; text = 207 ∷ 134 ∷ []; outcome = given 4 }  -- φ
    ∷ record { layout = layout 0 16 25; text = 206 ∷ 178 ∷ 98 ∷ []; outcome = given 11 }  -- βb
    ∷ record { layout = beginning 1 1 12 19; text = 67 ∷ 35 ∷ 47 ∷ 68 ∷ 98 ∷ []; outcome = given 1 }  -- C#/Db
    -- parentheses where the naming call writes none, none where it writes them, one alone; stars in the wrong place
    ∷ record { layout = layout 1 12 19; text = 40 ∷ 68 ∷ 35 ∷ 47 ∷ 69 ∷ 98 ∷ 41 ∷ []; outcome = refused 23 }  -- (D#/Eb)
    ∷ record { layout = layout 1 24 38; text = 68 ∷ 35 ∷ 47 ∷ 69 ∷ 98 ∷ []; outcome = refused 23 }  -- D#/Eb
    ∷ record { layout = layout 1 24 38; text = 40 ∷ 68 ∷ 35 ∷ 41 ∷ []; outcome = refused 23 }  -- (D#)
    ∷ record { layout = layout 1 24 38; text = 40 ∷ 68 ∷ 35 ∷ 47 ∷ 69 ∷ 98 ∷ []; outcome = refused 23 }  -- (D#/Eb
    ∷ record { layout = layout 1 24 38; text = 68 ∷ 35 ∷ 47 ∷ 69 ∷ 98 ∷ 41 ∷ []; outcome = refused 23 }  -- D#/Eb)
    ∷ record { layout = layout 1 24 38; text = 40 ∷ 68 ∷ 35 ∷ 42 ∷ 47 ∷ 69 ∷ 98 ∷ 42 ∷ 41 ∷ []; outcome = refused 23 }  -- (D#*/Eb*)
    ∷ record { layout = layout 1 24 38; text = 40 ∷ 68 ∷ 35 ∷ 47 ∷ 69 ∷ 98 ∷ 41 ∷ 42 ∷ 41 ∷ []; outcome = refused 23 }  -- (D#/Eb)*)
    -- no text; lower case; a slash alone; nothing behind it; two of them
    ∷ record { layout = layout 1 12 19; text = []; outcome = refused 23 }
    ∷ record { layout = layout 1 12 19; text = 102 ∷ 35 ∷ []; outcome = refused 23 }  -- f#
    ∷ record { layout = layout 1 12 19; text = 47 ∷ []; outcome = refused 23 }  -- /
    ∷ record { layout = layout 1 12 19; text = 68 ∷ 35 ∷ 47 ∷ []; outcome = refused 23 }  -- D#/
    ∷ record { layout = layout 1 12 19; text = 68 ∷ 35 ∷ 47 ∷ 69 ∷ 98 ∷ 47 ∷ 68 ∷ 35 ∷ []; outcome = refused 23 }  -- D#/Eb/D#
    -- two keys; 21 before 24; a star in one cycle; the layout's questions first
    ∷ record { layout = layout 1 12 19; text = 70 ∷ 35 ∷ 47 ∷ 65 ∷ []; outcome = refused 24 }  -- F#/A
    ∷ record { layout = layout 1 31 49; text = 70 ∷ 35 ∷ 47 ∷ 71 ∷ 98 ∷ []; outcome = refused 24 }  -- F#/Gb
    ∷ record { layout = layout 1 24 38; text = 40 ∷ 68 ∷ 35 ∷ 47 ∷ 69 ∷ 41 ∷ 42 ∷ []; outcome = refused 24 }  -- (D#/E)*
    ∷ record { layout = layout 1 24 38; text = 40 ∷ 68 ∷ 35 ∷ 47 ∷ 69 ∷ 41 ∷ 42 ∷ 42 ∷ []; outcome = refused 21 }  -- (D#/E)**
    ∷ record { layout = layout 1 12 19; text = 68 ∷ 42 ∷ []; outcome = refused 21 }  -- D*
    ∷ record { layout = layout 5 0 1; text = 47 ∷ []; outcome = refused 2 }  -- /
    ∷ []

-- Theorem.
pub record ExamplesHold : Type 0 where
  pub spellings : map (λ (e : SpellingExample). get_spelling e.layout e.text) spelling_examples
      ≡ map (λ (e : SpellingExample). e.outcome) spelling_examples
  pub keys : map (λ (e : KeyExample). get_named_key e.layout e.text) key_examples ≡ map (λ (e : KeyExample). e.outcome) key_examples
