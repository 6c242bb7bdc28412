-- Worked examples of the definitions: inputs and answers, and one theorem that each definition gives its column.
use Rattle.std.specs.Prelude.{◌≡◌, List, [], ◌∷◌, map, ℕ, ℤ, pos, negsuc, None, Option, Some}
use Rattle.answer.specs.Outcome.{Outcome, given, refused}
use Rattle.pergen.specs.Pergen.{cycles, reduced, inverse}
use Rattle.pergen.specs.Answers.{new_outcome, get_generation, get_accidentals, get_place, get_sounded_key}
use Rattle.pergen.specs.declared.PerGen.{PerGen}
use Rattle.pergen.specs.declared.Generation.{Generation}
use Rattle.pergen.specs.declared.AccidentalsFormat.{AccidentalsFormat}
use Rattle.pergen.specs.declared.Accidentals.{Accidentals}
use Rattle.pergen.specs.declared.Signs.{Signs}
use Rattle.pergen.specs.declared.Signs.TheVariants.{Sharps, Flats}
use Rattle.pergen.specs.Spelling.{signs_of}
use Rattle.pergen.specs.declared.Spelling.{Spelling}

-- ---- cycles, reduced period and inverse

pub record NumbersExample : Type 0 where
  pub period : ℕ
  pub generator : ℕ
  pub cycles : ℕ
  pub reduced : ℕ
  pub inverse : ℕ

-- 24 and 14: the inverse is taken modulo the reduced period 12. The last two: one key, and the largest prime period.
-- (The definition of the inverse tries one number after the other, so few examples here have a large one.)
abbrev pub numbers_examples : List NumbersExample
numbers_examples =
    record { period = 12; generator = 7; cycles = 1; reduced = 12; inverse = 7 }
    ∷ record { period = 24; generator = 14; cycles = 2; reduced = 12; inverse = 7 }
    ∷ record { period = 12; generator = 19; cycles = 1; reduced = 12; inverse = 7 }
    ∷ record { period = 5; generator = 3; cycles = 1; reduced = 5; inverse = 2 }
    ∷ record { period = 12; generator = 0; cycles = 12; reduced = 1; inverse = 0 }
    ∷ record { period = 1; generator = 65535; cycles = 1; reduced = 1; inverse = 0 }
    ∷ record { period = 65521; generator = 32761; cycles = 1; reduced = 65521; inverse = 2 }
    ∷ []

-- ---- the spellings of keys, and the order of the questions

abbrev pub pergen : ℕ → ℕ → PerGen
pergen P G = record { period = P; generator = G }

abbrev pub format : ℕ → ℕ → AccidentalsFormat
format N o = record { num_symbols = N; genchain_origin = o }

abbrev pub spelt : Option ℕ → ℕ → ℕ → ℕ → ℕ → Accidentals
spelt c si sc fi fc =
    record { cycle = c; sharp_index = si; sharp_count = sc; flat_index = fi; flat_count = fc }

pub record KeyExample : Type 0 where
  pub pergen : PerGen
  pub format : AccidentalsFormat
  pub key : ℤ
  pub generation : Outcome Generation
  pub accidentals : Outcome Accidentals

abbrev pub key_examples : List KeyExample
key_examples =
    -- document 01: "period 5, generator 3, 7 symbols, origin 3: key 1 has indices 5 and 0; key 2 has 2 and 2"
    record { pergen = pergen 5 3; format = format 7 3; key = pos 1; generation = given (record { cycle = None; degree = 2 }); accidentals = given (spelt None 5 0 0 0) }
    ∷ record { pergen = pergen 5 3; format = format 7 3; key = pos 2; generation = given (record { cycle = None; degree = 4 }); accidentals = given (spelt None 2 0 2 0) }
    -- the same without a shift: key 0, and the last key before the octave
    ∷ record { pergen = pergen 5 3; format = format 7 3; key = pos 0; generation = given (record { cycle = None; degree = 0 }); accidentals = given (spelt None 3 0 3 0) }
    ∷ record { pergen = pergen 5 3; format = format 7 3; key = pos 4; generation = given (record { cycle = None; degree = 3 }); accidentals = given (spelt None 6 0 1 0) }
    -- seven letters in twelve keys: key 1 is D# or Eb, key 2 is E
    ∷ record { pergen = pergen 12 7; format = format 7 3; key = pos 1; generation = given (record { cycle = None; degree = 7 }); accidentals = given (spelt None 3 1 5 1) }
    ∷ record { pergen = pergen 12 7; format = format 7 3; key = pos 2; generation = given (record { cycle = None; degree = 2 }); accidentals = given (spelt None 5 0 5 0) }
    -- two cycles: keys 2 and 3 are both (D#/Eb), the second with a star
    ∷ record { pergen = pergen 24 14; format = format 7 3; key = pos 2; generation = given (record { cycle = Some 0; degree = 7 }); accidentals = given (spelt (Some 0) 3 1 5 1) }
    ∷ record { pergen = pergen 24 14; format = format 7 3; key = pos 3; generation = given (record { cycle = Some 1; degree = 7 }); accidentals = given (spelt (Some 1) 3 1 5 1) }
    -- below 0 (`negsuc k` is −1 − k): −1 is key 11 of twelve, C# or Db; −12 is key 0; −1 of two cycles is key 23, −24 is key 0
    ∷ record { pergen = pergen 12 7; format = format 7 3; key = negsuc 0; generation = given (record { cycle = None; degree = 5 }); accidentals = given (spelt None 1 1 3 1) }
    ∷ record { pergen = pergen 12 7; format = format 7 3; key = negsuc 11; generation = given (record { cycle = None; degree = 0 }); accidentals = given (spelt None 3 0 3 0) }
    ∷ record { pergen = pergen 24 14; format = format 7 3; key = negsuc 0; generation = given (record { cycle = Some 1; degree = 5 }); accidentals = given (spelt (Some 1) 1 1 3 1) }
    ∷ record { pergen = pergen 24 14; format = format 7 3; key = negsuc 23; generation = given (record { cycle = Some 0; degree = 0 }); accidentals = given (spelt (Some 0) 3 0 3 0) }
    -- both ends of 32 signed bits: −2,147,483,648 is key 4 of twelve, 2,147,483,647 key 7; and the low branch, −1 of five
    ∷ record { pergen = pergen 12 7; format = format 7 3; key = negsuc 2147483647; generation = given (record { cycle = None; degree = 4 }); accidentals = given (spelt None 0 1 2 1) }
    ∷ record { pergen = pergen 12 7; format = format 7 3; key = pos 2147483647; generation = given (record { cycle = None; degree = 1 }); accidentals = given (spelt None 4 0 4 0) }
    ∷ record { pergen = pergen 5 3; format = format 7 3; key = negsuc 0; generation = given (record { cycle = None; degree = 3 }); accidentals = given (spelt None 6 0 1 0) }
    -- questions 2, 5 and 6, in this order
    ∷ record { pergen = pergen 0 7; format = format 0 0; key = pos 1; generation = refused 2; accidentals = refused 2 }
    ∷ record { pergen = pergen 12 7; format = format 0 0; key = pos 2; generation = given (record { cycle = None; degree = 2 }); accidentals = refused 5 }
    ∷ record { pergen = pergen 12 7; format = format 7 7; key = pos 2; generation = given (record { cycle = None; degree = 2 }); accidentals = refused 6 }
    ∷ []

-- ---- places and sounded keys of spellings

pub record SpellingExample : Type 0 where
  pub pergen : PerGen
  pub format : AccidentalsFormat
  pub spelling : Spelling
  pub place : Outcome ℤ
  pub key : Outcome ℕ

abbrev pub spelling_examples : List SpellingExample
spelling_examples =
    -- D# and Eb sound key 1 of twelve; `negsuc 4` is −5
    record { pergen = pergen 12 7; format = format 7 3; spelling = record { index = 3; signs = Sharps 1; stars = 0 }; place = given (pos 7); key = given 1 }
    ∷ record { pergen = pergen 12 7; format = format 7 3; spelling = record { index = 5; signs = Flats 1; stars = 0 }; place = given (negsuc 4); key = given 1 }
    -- no sharps and no flats are one spelling
    ∷ record { pergen = pergen 12 7; format = format 7 3; spelling = record { index = 5; signs = Flats 0; stars = 0 }; place = given (pos 2); key = given 2 }
    ∷ record { pergen = pergen 12 7; format = format 7 3; spelling = record { index = 5; signs = Sharps 0; stars = 0 }; place = given (pos 2); key = given 2 }
    -- a star, in two cycles
    ∷ record { pergen = pergen 24 14; format = format 7 3; spelling = record { index = 3; signs = Sharps 1; stars = 1 }; place = given (pos 7); key = given 3 }
    -- as many flats as can be asked for
    ∷ record { pergen = pergen 65535 2; format = format 65535 65534; spelling = record { index = 0; signs = Flats 4294967295; stars = 65534 }; place = given (negsuc 281470681743358); key = given 1 }
    -- the questions
    ∷ record { pergen = pergen 0 7; format = format 0 0; spelling = record { index = 0; signs = Sharps 0; stars = 0 }; place = refused 5; key = refused 2 }
    ∷ record { pergen = pergen 12 7; format = format 7 8; spelling = record { index = 0; signs = Sharps 0; stars = 0 }; place = refused 6; key = refused 6 }
    ∷ []

-- ---- signs as one signed number

pub record SignsExample : Type 0 where
  pub number : ℤ
  pub signs : Signs

-- none, one and two of each kind, and both ends of 32 signed bits; `negsuc k` is −1 − k
abbrev pub signs_examples : List SignsExample
signs_examples =
    record { number = pos 0; signs = Sharps 0 }
    ∷ record { number = pos 1; signs = Sharps 1 }
    ∷ record { number = pos 2; signs = Sharps 2 }
    ∷ record { number = negsuc 0; signs = Flats 1 }
    ∷ record { number = negsuc 1; signs = Flats 2 }
    ∷ record { number = pos 2147483647; signs = Sharps 2147483647 }
    ∷ record { number = negsuc 2147483647; signs = Flats 2147483648 }
    ∷ []

-- Theorem: the definitions give what the examples say.
pub record ExamplesHold : Type 0 where
  pub cycles_are : map (λ (e : NumbersExample). cycles e.period e.generator) numbers_examples ≡ map (λ (e : NumbersExample). e.cycles) numbers_examples
  pub reduced_are : map (λ (e : NumbersExample). reduced e.period e.generator) numbers_examples ≡ map (λ (e : NumbersExample). e.reduced) numbers_examples
  pub inverses_are : map (λ (e : NumbersExample). inverse e.period e.generator) numbers_examples ≡ map (λ (e : NumbersExample). e.inverse) numbers_examples
  pub new_ones : map (λ (e : NumbersExample). new_outcome e.period e.generator) numbers_examples
      ≡ map (λ (e : NumbersExample). given (pergen e.period e.generator)) numbers_examples
  pub new_refused : new_outcome 0 7 ≡ refused 2
  pub generations : map (λ (e : KeyExample). get_generation e.pergen e.key) key_examples ≡ map (λ (e : KeyExample). e.generation) key_examples
  -- the product with the inverse, 32,769 × 65,535, passes 2,147,483,647 and is exact
  pub large_product : get_generation (pergen 65521 19271) (pos 65535) ≡ given (record { cycle = None; degree = 119 })
  pub accidentals : map (λ (e : KeyExample). get_accidentals e.pergen e.format e.key) key_examples ≡ map (λ (e : KeyExample). e.accidentals) key_examples
  pub signs_are : map (λ (e : SignsExample). signs_of e.number) signs_examples ≡ map (λ (e : SignsExample). e.signs) signs_examples
  pub places : map (λ (e : SpellingExample). get_place e.format e.spelling) spelling_examples ≡ map (λ (e : SpellingExample). e.place) spelling_examples
  pub keys : map (λ (e : SpellingExample). get_sounded_key e.pergen e.format e.spelling) spelling_examples ≡ map (λ (e : SpellingExample). e.key) spelling_examples
