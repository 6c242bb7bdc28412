-- Worked examples of the definitions: accidentals, the name of document 01, and what a reader finds in it.
use Rattle.std.specs.Prelude.{◌≡◌, Bool, true, false, List, [], ◌∷◌, map, ℕ, pos, None, Option, Some}
use Rattle.answer.specs.Outcome.{given, refused}
use Rattle.pergen.specs.declared.Accidentals.{Accidentals}
use Rattle.pergen.specs.declared.Signs.TheVariants.{Sharps, Flats}
use Rattle.pergen.specs.Spelling.{key_accidentals, sounded_key}
use Rattle.notes.specs.Names.{printed}
use Rattle.notes.specs.Reading.{Reading, read_name}
use Rattle.notes.specs.Answers.{chain_name, name_length_outcome, name_outcome}

abbrev pub spelt : Option ℕ → ℕ → ℕ → ℕ → ℕ → Accidentals
spelt c si sc fi fc =
    record { cycle = c; sharp_index = si; sharp_count = sc; flat_index = fi; flat_count = fc }

abbrev pub found : ℕ → ℕ → ℕ → ℕ → Reading
found letter sharps flats stars = record { letter = letter; sharps = sharps; flats = flats; stars = stars }

pub record NameExample : Type 0 where
  pub code : ℕ
  pub sharp_first : Bool
  pub accidentals : Accidentals
  pub name : List ℕ
  pub reading : Reading

abbrev pub name_examples : List NameExample
name_examples =
    -- code 1, 12, 19: D, D#/Eb and E
    record { code = 1; sharp_first = true; accidentals = spelt None 3 0 3 0; name = 68 ∷ []; reading = found 68 0 0 0 }
    ∷ record { code = 1; sharp_first = true; accidentals = spelt None 3 1 5 1; name = 68 ∷ 35 ∷ 47 ∷ 69 ∷ 98 ∷ []; reading = found 68 1 0 0 }
    ∷ record { code = 1; sharp_first = true; accidentals = spelt None 5 0 5 0; name = 69 ∷ []; reading = found 69 0 0 0 }
    -- code 1, 24, 38: D*, (D#/Eb) and (D#/Eb)*
    ∷ record { code = 1; sharp_first = true; accidentals = spelt (Some 1) 3 0 3 0; name = 68 ∷ 42 ∷ []; reading = found 68 0 0 1 }
    ∷ record { code = 1; sharp_first = true; accidentals = spelt (Some 0) 3 1 5 1; name = 40 ∷ 68 ∷ 35 ∷ 47 ∷ 69 ∷ 98 ∷ 41 ∷ []; reading = found 68 1 0 0 }
    ∷ record { code = 1; sharp_first = true; accidentals = spelt (Some 1) 3 1 5 1; name = 40 ∷ 68 ∷ 35 ∷ 47 ∷ 69 ∷ 98 ∷ 41 ∷ 42 ∷ []; reading = found 68 1 0 1 }
    -- code 1, 31, 49: Ebb and B#
    ∷ record { code = 1; sharp_first = true; accidentals = spelt None 1 3 5 2; name = 69 ∷ 98 ∷ 98 ∷ []; reading = found 69 0 2 0 }
    ∷ record { code = 1; sharp_first = true; accidentals = spelt None 6 1 3 3; name = 66 ∷ 35 ∷ []; reading = found 66 1 0 0 }
    -- code 1, 16, 25: D+/E- and B+, flats first and written +
    ∷ record { code = 1; sharp_first = false; accidentals = spelt None 5 1 3 1; name = 68 ∷ 43 ∷ 47 ∷ 69 ∷ 45 ∷ []; reading = found 68 0 1 0 }
    ∷ record { code = 1; sharp_first = false; accidentals = spelt None 1 2 6 1; name = 66 ∷ 43 ∷ []; reading = found 66 0 1 0 }
    -- code 2, 7, 8: A+/C-
    ∷ record { code = 2; sharp_first = false; accidentals = spelt None 0 1 3 1; name = 65 ∷ 43 ∷ 47 ∷ 67 ∷ 45 ∷ []; reading = found 65 0 1 0 }
    -- letters of two bytes, of code 0: β, φ- and β++**
    ∷ record { code = 0; sharp_first = true; accidentals = spelt None 0 0 0 0; name = 206 ∷ 178 ∷ []; reading = found 946 0 0 0 }
    ∷ record { code = 0; sharp_first = false; accidentals = spelt None 8 1 0 2; name = 207 ∷ 134 ∷ 45 ∷ []; reading = found 966 1 0 0 }
    ∷ record { code = 0; sharp_first = false; accidentals = spelt (Some 2) 4 3 0 2; name = 206 ∷ 178 ∷ 43 ∷ 43 ∷ 42 ∷ 42 ∷ []; reading = found 946 0 2 2 }
    -- no signs at two letters, as where there are fewer keys than letters: B/F
    ∷ record { code = 1; sharp_first = true; accidentals = spelt None 6 0 0 0; name = 66 ∷ 47 ∷ 70 ∷ []; reading = found 66 0 0 0 }
    -- an index past the letters: ?
    ∷ record { code = 2; sharp_first = true; accidentals = spelt None 5 0 5 0; name = 63 ∷ []; reading = found 63 0 0 0 }
    ∷ []

-- Theorem: the definitions give what the examples say.
pub record ExamplesHold : Type 0 where
  pub names : map (λ (e : NameExample). chain_name e.code e.sharp_first e.accidentals) name_examples ≡ map (λ (e : NameExample). e.name) name_examples
  pub readings : map (λ (e : NameExample). read_name e.sharp_first e.name) name_examples ≡ map (λ (e : NameExample). e.reading) name_examples
  -- the questions, with D#/Eb in slices of 5 and of 4 bytes
  pub fits : name_outcome 1 true (spelt None 3 1 5 1) 5 ≡ given (68 ∷ 35 ∷ 47 ∷ 69 ∷ 98 ∷ [])
  pub no_room : name_outcome 1 true (spelt None 3 1 5 1) 4 ≡ refused 10
  pub no_chain_lem : name_outcome 6 true (spelt None 3 1 5 1) 0 ≡ refused 1
  pub length_given : name_length_outcome 1 true (spelt None 3 1 5 1) ≡ given 5
  pub length_no_chain : name_length_outcome 65535 true (spelt None 3 1 5 1) ≡ refused 1
  -- Where there are fewer keys than symbols, which no layout has, the printed spellings are not all of the simplest, and two may both be
  -- bare (document 02, W-211). Period 1, generator 0, two symbols: the first is printed, and the second sounds key 0 as well.
  pub first_of_two : printed true (key_accidentals 1 0 2 0 (pos 0)) ≡ record { index = 0; signs = Sharps 0; stars = 0 } ∷ []
  pub second_of_two : sounded_key 1 0 2 0 (record { index = 1; signs = Sharps 0; stars = 0 }) ≡ 0
  -- Period 2, generator 1, three symbols, origin 1: key 1 has two names without signs.
  pub two_bare : printed true (key_accidentals 2 1 3 1 (pos 1))
      ≡ record { index = 2; signs = Sharps 0; stars = 0 } ∷ record { index = 0; signs = Flats 0; stars = 0 } ∷ []
