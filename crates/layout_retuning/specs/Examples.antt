-- Worked examples, and one theorem that the definitions give them.
use Rattle.std.specs.Prelude.{ℕ, List, [], ◌∷◌, ◌++◌, map, ◌≡◌, ℤ, pos, negsuc}
use Rattle.answer.specs.Outcome.{Outcome, given, refused}
use Rattle.layout_retuning.specs.Retunings.{spelt}
use Rattle.layout_retuning.specs.Answers.{get_moved, get_move_table, get_largest_move}
use Rattle.layout_retuning.specs.declared.Retuning.{Retuning}

-- A chain, an octave and a start, from one tritave to another.
abbrev pub retuning : ℕ → ℕ → ℕ → ℕ → ℕ → Retuning
retuning code octave start from to =
    record { genchain = code; octave = octave; start = start; from_tritave = from; to_tritave = to }

-- "we retune Meantone[5] from 49 to 50 tritave steps in 31": its code is 2, its letters are C G D A E, and it begins on D. The generator
-- goes from 18 to 19.
abbrev pub lesson : Retuning
lesson = retuning 2 31 2 49 50

-- From eight flats to eight sharps; the ninth of each row is the letter by itself.
abbrev pub lesson_table : List ℕ
lesson_table =
    -- C
    (11 ∷ 6 ∷ 1 ∷ 4 ∷ 9 ∷ 14 ∷ 12 ∷ 7 ∷ 2 ∷ 3 ∷ 8 ∷ 13 ∷ 13 ∷ 8 ∷ 3 ∷ 2 ∷ 7 ∷ [])
    -- G
    ++ (10 ∷ 5 ∷ 0 ∷ 5 ∷ 10 ∷ 15 ∷ 11 ∷ 6 ∷ 1 ∷ 4 ∷ 9 ∷ 14 ∷ 12 ∷ 7 ∷ 2 ∷ 3 ∷ 8 ∷ [])
    -- D
    ++ (9 ∷ 4 ∷ 1 ∷ 6 ∷ 11 ∷ 15 ∷ 10 ∷ 5 ∷ 0 ∷ 5 ∷ 10 ∷ 15 ∷ 11 ∷ 6 ∷ 1 ∷ 4 ∷ 9 ∷ [])
    -- A
    ++ (8 ∷ 3 ∷ 2 ∷ 7 ∷ 12 ∷ 14 ∷ 9 ∷ 4 ∷ 1 ∷ 6 ∷ 11 ∷ 15 ∷ 10 ∷ 5 ∷ 0 ∷ 5 ∷ 10 ∷ [])
    -- E
    ++ (7 ∷ 2 ∷ 3 ∷ 8 ∷ 13 ∷ 13 ∷ 8 ∷ 3 ∷ 2 ∷ 7 ∷ 12 ∷ 14 ∷ 9 ∷ 4 ∷ 1 ∷ 6 ∷ 11 ∷ [])

pub record MoveExample : Type 0 where
  pub retuning : Retuning
  pub letter : ℕ
  pub signs : ℤ
  pub stars : ℕ
  pub move : Outcome ℕ

-- `negsuc k` is −1 − k.
abbrev pub move_examples : List MoveExample
move_examples =
    -- D stays; A, a place from it, moves by a step; D#### is at place 20 and moves by 20 steps one way, so by 11 the other
    record { retuning = lesson; letter = 2; signs = pos 0; stars = 0; move = given 0 }
    ∷ record { retuning = lesson; letter = 3; signs = pos 0; stars = 0; move = given 1 }
    ∷ record { retuning = lesson; letter = 2; signs = pos 4; stars = 0; move = given 11 }
    -- D with as many flats, and as many sharps, as 32 signed bits tell
    ∷ record { retuning = lesson; letter = 2; signs = negsuc 2147483647; stars = 0; move = given 10 }
    ∷ record { retuning = lesson; letter = 2; signs = pos 2147483647; stars = 0; move = given 5 }
    -- beginning on C, E is at place 4
    ∷ record { retuning = retuning 2 31 0 49 50; letter = 4; signs = pos 0; stars = 0; move = given 4 }
    -- Meantone[7] in 24, from generator 14 to generator 10, of two cycles each: D#* goes from key 3 to key 23
    ∷ record { retuning = retuning 1 24 3 38 34; letter = 3; signs = pos 1; stars = 1; move = given 4 }
    ∷ record { retuning = retuning 1 24 3 38 34; letter = 3; signs = pos 1; stars = 2; move = refused 21 }
    -- of two cycles the one, of one the other, either way round
    ∷ record { retuning = retuning 1 24 3 38 37; letter = 3; signs = pos 1; stars = 0; move = given 7 }
    ∷ record { retuning = retuning 1 24 3 38 37; letter = 3; signs = pos 1; stars = 1; move = refused 21 }
    ∷ record { retuning = retuning 1 24 3 37 38; letter = 3; signs = pos 1; stars = 1; move = refused 21 }
    -- a sixth letter: 16 comes before 21
    ∷ record { retuning = lesson; letter = 5; signs = pos 0; stars = 1; move = refused 16 }
    -- the first layout's questions, 18 too, come before the second's, and all of them before 16
    ∷ record { retuning = retuning 6 0 9 0 0; letter = 9; signs = pos 0; stars = 9; move = refused 1 }
    ∷ record { retuning = retuning 2 0 9 0 0; letter = 9; signs = pos 0; stars = 9; move = refused 2 }
    ∷ record { retuning = retuning 2 4 9 3 6; letter = 9; signs = pos 0; stars = 9; move = refused 3 }
    ∷ record { retuning = retuning 2 4 9 6 3; letter = 9; signs = pos 0; stars = 9; move = refused 4 }
    ∷ record { retuning = retuning 2 31 5 49 30; letter = 9; signs = pos 0; stars = 9; move = refused 18 }
    ∷ record { retuning = retuning 1 31 7 49 50; letter = 9; signs = pos 0; stars = 9; move = refused 18 }
    ∷ record { retuning = retuning 2 31 4 49 30; letter = 9; signs = pos 0; stars = 9; move = refused 3 }
    ∷ record { retuning = retuning 1 31 6 49 50; letter = 9; signs = pos 0; stars = 9; move = refused 4 }
    ∷ []

-- Theorem.
pub record ExamplesHold : Type 0 where
  pub moves : map (λ (e : MoveExample). get_moved e.retuning (spelt e.letter e.signs e.stars)) move_examples
      ≡ map (λ (e : MoveExample). e.move) move_examples
  pub table : get_move_table lesson ≡ given lesson_table
  pub most : get_largest_move lesson ≡ given 15
  -- the order of the questions, for tables too
  pub no_tables : map get_move_table (retuning 2 4 9 6 3 ∷ retuning 2 31 5 49 30 ∷ retuning 2 31 4 49 30 ∷ [])
      ≡ refused 4 ∷ refused 18 ∷ refused 3 ∷ []
  pub none_largest : map get_largest_move (retuning 2 4 9 6 3 ∷ retuning 2 31 5 49 30 ∷ retuning 2 31 4 49 30 ∷ [])
      ≡ refused 4 ∷ refused 18 ∷ refused 3 ∷ []
