-- Worked examples of what the calls write and answer, and one theorem that the definitions give them.
use Rattle.std.specs.Prelude.{ℕ, List, [], ◌∷◌, map, ◌≡◌, ℤ, pos, negsuc}
use Rattle.answer.specs.Outcome.{Outcome, given, refused}
use Rattle.layout.specs.Answers.{get_sounded_key}
use Rattle.layout_layers.specs.KeyLayers.{kind_of}
use Rattle.layout_reading.specs.Answers.{get_spelling, get_named_key}
use Rattle.mos.specs.Answers.{of_pattern, coprime_outcome}
use Rattle.mos.specs.Patterns.{mos, child_of}
use Rattle.mos.specs.Walks.{fields}
use Rattle.pergen.specs.Answers.{get_generation, get_accidentals}
use Rattle.vetchnoon_codes.specs.Numbers.{as_numbers, accidentals_numbers, walk_numbers}
use Rattle.vetchnoon.specs.Written.{pergen, format, layout, spelling, pergen_output, generation_numbers, find_output, letters_output, name_output, layout_output, kind_numbers}
use Rattle.vetchnoon.specs.TypedNames.{as_signed, spelling_numbers}

-- A layout's numbers, and what is written for it.
pub record LayoutExample : Type 0 where
  pub code : ℕ
  pub octave : ℕ
  pub tritave : ℕ
  pub start : ℕ
  pub output : Outcome (List ℕ)

abbrev pub layout_examples : List LayoutExample
layout_examples =
    -- generator, cycles, reduced period, inverse; counts and steps
    record { code = 1; octave = 12; tritave = 19; start = 3; output = given (7 ∷ 1 ∷ 12 ∷ 7 ∷ 5 ∷ 2 ∷ 2 ∷ 1 ∷ []) }
    ∷ record { code = 1; octave = 31; tritave = 49; start = 3; output = given (18 ∷ 1 ∷ 31 ∷ 19 ∷ 5 ∷ 2 ∷ 5 ∷ 3 ∷ []) }
    ∷ record { code = 1; octave = 24; tritave = 38; start = 3; output = given (14 ∷ 2 ∷ 12 ∷ 7 ∷ 5 ∷ 2 ∷ 4 ∷ 2 ∷ []) }
    ∷ record { code = 5; octave = 19; tritave = 30; start = 3; output = given (14 ∷ 1 ∷ 19 ∷ 15 ∷ 4 ∷ 3 ∷ 4 ∷ 1 ∷ []) }
    -- the questions
    ∷ record { code = 6; octave = 0; tritave = 0; start = 65535; output = refused 1 }
    ∷ record { code = 1; octave = 0; tritave = 19; start = 65535; output = refused 2 }
    ∷ record { code = 3; octave = 12; tritave = 19; start = 65535; output = refused 3 }
    ∷ record { code = 0; octave = 12; tritave = 19; start = 65535; output = refused 4 }
    -- the last letter's index, and one more
    ∷ record { code = 1; octave = 12; tritave = 19; start = 6; output = given (7 ∷ 1 ∷ 12 ∷ 7 ∷ 5 ∷ 2 ∷ 2 ∷ 1 ∷ []) }
    ∷ record { code = 1; octave = 12; tritave = 19; start = 7; output = refused 18 }
    ∷ []

-- A layout, a letter with signs and stars, and the key that it sounds.
pub record SpellingExample : Type 0 where
  pub octave : ℕ
  pub tritave : ℕ
  pub letter : ℕ
  pub signs : ℤ
  pub stars : ℕ
  pub key : Outcome ℕ

-- In code 1, whose letters are F C G D A E B; `negsuc k` is −1 − k.
abbrev pub spelling_examples : List SpellingExample
spelling_examples =
    -- D# and Eb sound one key
    record { octave = 12; tritave = 19; letter = 3; signs = pos 1; stars = 0; key = given 1 }
    ∷ record { octave = 12; tritave = 19; letter = 5; signs = negsuc 0; stars = 0; key = given 1 }
    -- no letter
    ∷ record { octave = 12; tritave = 19; letter = 7; signs = pos 0; stars = 1; key = refused 16 }
    ∷ []

-- Theorem.
pub record ExamplesHold : Type 0 where
  -- cycles, reduced period, inverse
  pub pergens : pergen_output 24 14 ≡ given (2 ∷ 12 ∷ 7 ∷ [])
  pub no_period : pergen_output 0 14 ≡ refused 2
  -- degree, whether there is a cycle, cycle
  pub with_cycle : as_numbers generation_numbers (get_generation (pergen 24 14) (pos 2)) ≡ given (7 ∷ 1 ∷ 0 ∷ [])
  -- key −1, which is key 23
  pub below_zero : as_numbers generation_numbers (get_generation (pergen 24 14) (negsuc 0)) ≡ given (5 ∷ 1 ∷ 1 ∷ [])
  pub without_cycle : as_numbers generation_numbers (get_generation (pergen 12 7) (pos 1)) ≡ given (7 ∷ 0 ∷ 0 ∷ [])
  -- "period 5, generator 3, 7 symbols, origin 3: key 1 has indices 5 and 0"
  pub spelled : as_numbers accidentals_numbers (get_accidentals (pergen 5 3) (format 7 3) (pos 1)) ≡ given (5 ∷ 0 ∷ 0 ∷ 0 ∷ [])
  pub child : as_numbers walk_numbers (of_pattern (mos 5 2 2 1) (child_of (mos 5 2 2 1))) ≡ given (5 ∷ 7 ∷ 1 ∷ 1 ∷ [])
  pub no_child : as_numbers walk_numbers (of_pattern (mos 5 7 1 1) (child_of (mos 5 7 1 1))) ≡ given []
  -- "Pattern 1, 60000, 4, 0: `coprime` gives 8."
  pub coprime : as_numbers fields (coprime_outcome (mos 1 60000 4 0)) ≡ refused 8
  pub found : find_output 12 7 7 ≡ given (5 ∷ 2 ∷ 2 ∷ 1 ∷ [])
  pub none_found : find_output 12 7 6 ≡ given []
  -- β F C G D A E B φ
  pub letters : letters_output 0 ≡ given (946 ∷ 70 ∷ 67 ∷ 71 ∷ 68 ∷ 65 ∷ 69 ∷ 66 ∷ 966 ∷ [])
  -- Hanson[7]
  pub chain_name_lem : name_output 5 ≡ given (72 ∷ 97 ∷ 110 ∷ 115 ∷ 111 ∷ 110 ∷ 91 ∷ 55 ∷ 93 ∷ [])
  pub no_chain_lem : map (λ (f : ℕ → Outcome (List ℕ)). f 6) (letters_output ∷ name_output ∷ []) ≡ refused 1 ∷ refused 1 ∷ []
  -- the numbers 0 to 5 of 6: natural, sharp 0 and 1, enharmonic 2, flat 1 and 0
  pub kinds : map (λ (j : ℕ). kind_numbers (kind_of 6 j)) (0 ∷ 1 ∷ 2 ∷ 3 ∷ 4 ∷ 5 ∷ [])
      ≡ (0 ∷ 0 ∷ []) ∷ (1 ∷ 0 ∷ []) ∷ (1 ∷ 1 ∷ []) ∷ (2 ∷ 2 ∷ []) ∷ (3 ∷ 1 ∷ []) ∷ (3 ∷ 0 ∷ []) ∷ []
  pub layouts : map (λ (e : LayoutExample). layout_output (layout e.code e.octave e.tritave e.start)) layout_examples
      ≡ map (λ (e : LayoutExample). e.output) layout_examples
  pub spellings : map
      (λ (e : SpellingExample). get_sounded_key (layout 1 e.octave e.tritave 3) (spelling e.letter e.signs e.stars))
      spelling_examples
      ≡ map (λ (e : SpellingExample). e.key) spelling_examples
  -- of code 1 with 24 and 38: Ebb* is a letter, two flats and a star, and sounds the key of D*; (Eb/D#)* is key 3
  pub typed : as_signed spelling_numbers (get_spelling (layout 1 24 38 3) (69 ∷ 98 ∷ 98 ∷ 42 ∷ [])) ≡ given (pos 5 ∷ negsuc 1 ∷ pos 1 ∷ [])
  pub not_typed : as_signed spelling_numbers (get_spelling (layout 1 24 38 3) (69 ∷ 98 ∷ 35 ∷ [])) ≡ refused 23
  pub named : map (get_named_key (layout 1 24 38 3)) ((69 ∷ 98 ∷ 98 ∷ 42 ∷ []) ∷ (40 ∷ 69 ∷ 98 ∷ 47 ∷ 68 ∷ 35 ∷ 41 ∷ 42 ∷ []) ∷ [])
      ≡ given 1 ∷ given 3 ∷ []
