-- Worked examples of the definitions: inputs and answers, and one theorem that each definition gives its column.
use Rattle.std.specs.Prelude.{◌≡◌, List, [], ◌∷◌, map, ℕ}
use Rattle.answer.specs.Outcome.{Outcome, given, refused}
use Rattle.genchain.specs.Answers.{generator_outcome, num_letters_outcome, start_outcome, name_length_outcome, letters_outcome, name_outcome}

pub record GeneratorExample : Type 0 where
  pub code : ℕ
  pub octave : ℕ
  pub tritave : ℕ
  pub outcome : Outcome ℕ

abbrev pub generator_examples : List GeneratorExample
generator_examples =
    record { code = 1; octave = 12; tritave = 19; outcome = given 7 }
    ∷ record { code = 1; octave = 31; tritave = 49; outcome = given 18 }
    ∷ record { code = 1; octave = 24; tritave = 38; outcome = given 14 }
    ∷ record { code = 0; octave = 16; tritave = 25; outcome = given 9 }
    ∷ record { code = 2; octave = 65534; tritave = 65535; outcome = given 1 }
    ∷ record { code = 3; octave = 15; tritave = 24; outcome = given 2 }
    ∷ record { code = 4; octave = 34; tritave = 54; outcome = given 5 }
    ∷ record { code = 5; octave = 19; tritave = 30; outcome = given 14 }
    -- a generator of 0 is whole and not negative
    ∷ record { code = 1; octave = 12; tritave = 12; outcome = given 0 }
    ∷ record { code = 3; octave = 12; tritave = 24; outcome = given 0 }
    ∷ record { code = 5; octave = 5; tritave = 30; outcome = given 0 }
    -- 3: not whole
    ∷ record { code = 3; octave = 12; tritave = 19; outcome = refused 3 }
    ∷ record { code = 4; octave = 12; tritave = 19; outcome = refused 3 }
    ∷ record { code = 5; octave = 12; tritave = 19; outcome = refused 3 }
    -- 3: negative
    ∷ record { code = 1; octave = 20; tritave = 19; outcome = refused 3 }
    ∷ record { code = 3; octave = 12; tritave = 27; outcome = refused 3 }
    ∷ record { code = 4; octave = 20; tritave = 16; outcome = refused 3 }
    ∷ record { code = 5; octave = 4; tritave = 30; outcome = refused 3 }
    -- 3: 2 × octave is 65,534, and 65,536
    ∷ record { code = 3; octave = 32767; tritave = 65534; outcome = given 0 }
    ∷ record { code = 3; octave = 32768; tritave = 65533; outcome = refused 3 }
    -- 2, and 1 before it
    ∷ record { code = 1; octave = 0; tritave = 19; outcome = refused 2 }
    ∷ record { code = 3; octave = 0; tritave = 1; outcome = refused 2 }
    ∷ record { code = 6; octave = 0; tritave = 0; outcome = refused 1 }
    ∷ record { code = 65535; octave = 12; tritave = 19; outcome = refused 1 }
    ∷ []

pub record ChainExample : Type 0 where
  pub code : ℕ
  pub letters : Outcome ℕ
  pub start : Outcome ℕ
  pub name : Outcome ℕ

abbrev pub chain_examples : List ChainExample
chain_examples =
    record { code = 0; letters = given 9; start = given 4; name = given 9 }
    ∷ record { code = 1; letters = given 7; start = given 3; name = given 11 }
    ∷ record { code = 2; letters = given 5; start = given 2; name = given 11 }
    ∷ record { code = 3; letters = given 8; start = given 3; name = given 12 }
    ∷ record { code = 4; letters = given 7; start = given 3; name = given 11 }
    ∷ record { code = 5; letters = given 7; start = given 3; name = given 9 }
    ∷ record { code = 6; letters = refused 1; start = refused 1; name = refused 1 }
    ∷ []

-- Theorem: the definitions give what the examples say.
pub record ExamplesHold : Type 0 where
  pub generators : map (λ (e : GeneratorExample). generator_outcome e.code e.octave e.tritave) generator_examples
      ≡ map (λ (e : GeneratorExample). e.outcome) generator_examples
  pub letter_counts : map (λ (e : ChainExample). num_letters_outcome e.code) chain_examples ≡ map (λ (e : ChainExample). e.letters) chain_examples
  pub starts : map (λ (e : ChainExample). start_outcome e.code) chain_examples ≡ map (λ (e : ChainExample). e.start) chain_examples
  pub name_lengths : map (λ (e : ChainExample). name_length_outcome e.code) chain_examples ≡ map (λ (e : ChainExample). e.name) chain_examples
  -- C G D A E and Hanson[7] in slices that just hold them, and in ones that do not
  pub five_letters : letters_outcome 2 5 ≡ given (67 ∷ 71 ∷ 68 ∷ 65 ∷ 69 ∷ [])
  pub letters_short : letters_outcome 2 4 ≡ refused 10
  pub letters_of_none : letters_outcome 6 0 ≡ refused 1
  pub hanson : name_outcome 5 9 ≡ given (72 ∷ 97 ∷ 110 ∷ 115 ∷ 111 ∷ 110 ∷ 91 ∷ 55 ∷ 93 ∷ [])
  pub name_short : name_outcome 5 8 ≡ refused 10
  pub name_of_none : name_outcome 6 0 ≡ refused 1
