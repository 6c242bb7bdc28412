-- Worked examples beside document 01's marked ones, and one theorem that the definitions give them. (Those are in `layout_lamps`, with the strips.)
use Rattle.std.specs.Prelude.{ℕ, List, [], ◌∷◌, map, ◌≡◌, ℤ, pos, negsuc}
use Rattle.answer.specs.Outcome.{Outcome, given, refused}
use Rattle.mos.specs.declared.Mos.{Mos}
use Rattle.mos.specs.Patterns.{mos}
use Rattle.pergen.specs.declared.Signs.{Signs}
use Rattle.pergen.specs.declared.Signs.TheVariants.{Sharps, Flats}
use Rattle.pergen.specs.declared.Spelling.{Spelling}
use Rattle.layout.specs.Layouts.{Layout, Accepted, default_layout}
use Rattle.layout.specs.Names.{IsSpelling, place_in, printed_in}
use Rattle.layout.specs.Answers.{of_layout, get_mos, get_scale_name, get_note_name, get_sounded_key}
use Rattle.layout.specs.declared.IsomorphicLayout.{IsomorphicLayout}

-- With the chain's own start.
abbrev pub layout : ℕ → ℕ → ℕ → IsomorphicLayout
layout code octave tritave = default_layout code octave tritave

-- Beginning at another letter.
abbrev pub beginning : ℕ → ℕ → ℕ → ℕ → IsomorphicLayout
beginning start code octave tritave = record { genchain = code; octave = octave; tritave = tritave; start = start }

pub record ScaleExample : Type 0 where
  pub layout : IsomorphicLayout
  pub pattern : Outcome Mos
  pub scale : Outcome (List ℕ)

-- "Code 3, 15, 24: pine. Code 0, 16, 25: armotonic."; antidiatonic, where the primary step is the shorter; a refusal by each question.
abbrev pub scale_examples : List ScaleExample
scale_examples =
    record {
      layout = layout 3 15 24;
      pattern = given (mos 7 1 2 1);
      scale = given (112 ∷ 105 ∷ 110 ∷ 101 ∷ []);
    }
    ∷ record {
      layout = layout 0 16 25;
      pattern = given (mos 7 2 2 1);
      scale = given (97 ∷ 114 ∷ 109 ∷ 111 ∷ 116 ∷ 111 ∷ 110 ∷ 105 ∷ 99 ∷ []);
    }
    ∷ record {
      layout = layout 1 16 25;
      pattern = given (mos 5 2 2 3);
      scale = given (97 ∷ 110 ∷ 116 ∷ 105 ∷ 100 ∷ 105 ∷ 97 ∷ 116 ∷ 111 ∷ 110 ∷ 105 ∷ 99 ∷ []);
    }
    -- 18, of seven letters and of nine, behind each of the others; the last letter is a start
    ∷ record { layout = beginning 7 1 12 19; pattern = refused 18; scale = refused 18 }
    ∷ record { layout = beginning 9 0 16 25; pattern = refused 18; scale = refused 18 }
    ∷ record { layout = beginning 65535 6 0 0; pattern = refused 1; scale = refused 1 }
    ∷ record { layout = beginning 65535 5 0 1; pattern = refused 2; scale = refused 2 }
    ∷ record { layout = beginning 65535 1 12 11; pattern = refused 3; scale = refused 3 }
    ∷ record { layout = beginning 65535 2 4 6; pattern = refused 4; scale = refused 4 }
    ∷ record { layout = beginning 6 1 12 19; pattern = given (mos 5 2 2 1); scale = given (100 ∷ 105 ∷ 97 ∷ 116 ∷ 111 ∷ 110 ∷ 105 ∷ 99 ∷ []) }
    ∷ record { layout = layout 6 0 0; pattern = refused 1; scale = refused 1 }
    ∷ record { layout = layout 5 0 1; pattern = refused 2; scale = refused 2 }
    ∷ record { layout = layout 1 12 11; pattern = refused 3; scale = refused 3 }
    ∷ record { layout = layout 2 4 6; pattern = refused 4; scale = refused 4 }
    ∷ []

pub record NameExample : Type 0 where
  pub layout : IsomorphicLayout
  pub key : ℤ
  pub name : Outcome (List ℕ)

-- D+/E-, flats first where the primary step is the shorter; β in two bytes; parentheses and stars, in the next octave too.
abbrev pub name_examples : List NameExample
name_examples =
    record { layout = layout 1 16 25; key = pos 1; name = given (68 ∷ 43 ∷ 47 ∷ 69 ∷ 45 ∷ []) }
    ∷ record { layout = layout 0 16 25; key = pos 12; name = given (206 ∷ 178 ∷ []) }
    ∷ record { layout = layout 1 24 38; key = pos 8; name = given (40 ∷ 70 ∷ 35 ∷ 47 ∷ 71 ∷ 98 ∷ 41 ∷ []) }
    ∷ record { layout = layout 1 24 38; key = pos 33; name = given (40 ∷ 70 ∷ 35 ∷ 47 ∷ 71 ∷ 98 ∷ 41 ∷ 42 ∷ []) }
    -- beginning on C: C, C#/Db, D, D#/Eb, and B below
    ∷ record { layout = beginning 1 1 12 19; key = pos 0; name = given (67 ∷ []) }
    ∷ record { layout = beginning 1 1 12 19; key = pos 1; name = given (67 ∷ 35 ∷ 47 ∷ 68 ∷ 98 ∷ []) }
    ∷ record { layout = beginning 1 1 12 19; key = pos 2; name = given (68 ∷ []) }
    ∷ record { layout = beginning 1 1 12 19; key = pos 3; name = given (68 ∷ 35 ∷ 47 ∷ 69 ∷ 98 ∷ []) }
    ∷ record { layout = beginning 1 1 12 19; key = negsuc 0; name = given (66 ∷ []) }
    -- both ends of a chain, β and φ
    ∷ record { layout = beginning 0 0 16 25; key = pos 0; name = given (206 ∷ 178 ∷ []) }
    ∷ record { layout = beginning 8 0 16 25; key = pos 0; name = given (207 ∷ 134 ∷ []) }
    ∷ record { layout = beginning 9 0 16 25; key = pos 0; name = refused 18 }
    -- below 0 (`negsuc k` is −1 − k): −1 is C#/Db, −12 is D as 0 is; −1 of two cycles is (C#/Db)*; both ends of 32 signed bits, F#/Gb and A
    ∷ record { layout = layout 1 12 19; key = negsuc 0; name = given (67 ∷ 35 ∷ 47 ∷ 68 ∷ 98 ∷ []) }
    ∷ record { layout = layout 1 12 19; key = negsuc 11; name = given (68 ∷ []) }
    ∷ record { layout = layout 1 12 19; key = pos 0; name = given (68 ∷ []) }
    ∷ record { layout = layout 1 24 38; key = negsuc 0; name = given (40 ∷ 67 ∷ 35 ∷ 47 ∷ 68 ∷ 98 ∷ 41 ∷ 42 ∷ []) }
    ∷ record { layout = layout 1 12 19; key = negsuc 2147483647; name = given (70 ∷ 35 ∷ 47 ∷ 71 ∷ 98 ∷ []) }
    ∷ record { layout = layout 1 12 19; key = pos 2147483647; name = given (65 ∷ []) }
    ∷ record { layout = layout 2 4 6; key = negsuc 0; name = refused 4 }
    ∷ record { layout = layout 2 4 6; key = pos 0; name = refused 4 }
    ∷ []

-- ---- spellings

abbrev pub spelt : ℕ → Signs → ℕ → Spelling
spelt index signs stars = record { index = index; signs = signs; stars = stars }

pub record SpellingExample : Type 0 where
  pub layout : IsomorphicLayout
  pub spelling : Spelling
  pub place : ℤ
  pub key : Outcome ℕ

abbrev pub spelling_examples : List SpellingExample
spelling_examples =
    -- D, the letter of key 0; F, three places below it (`negsuc 2` is −3); D# and Eb, which are one key
    record { layout = layout 1 12 19; spelling = spelt 3 (Sharps 0) 0; place = pos 0; key = given 0 }
    ∷ record { layout = layout 1 12 19; spelling = spelt 0 (Sharps 0) 0; place = negsuc 2; key = given 3 }
    ∷ record { layout = layout 1 12 19; spelling = spelt 3 (Sharps 1) 0; place = pos 7; key = given 1 }
    ∷ record { layout = layout 1 12 19; spelling = spelt 5 (Flats 1) 0; place = negsuc 4; key = given 1 }
    -- beginning on C: C is at place 0, D at 2, B at 5
    ∷ record { layout = beginning 1 1 12 19; spelling = spelt 1 (Sharps 0) 0; place = pos 0; key = given 0 }
    ∷ record { layout = beginning 1 1 12 19; spelling = spelt 3 (Sharps 0) 0; place = pos 2; key = given 2 }
    ∷ record { layout = beginning 1 1 12 19; spelling = spelt 6 (Sharps 0) 0; place = pos 5; key = given 11 }
    -- D# with a star
    ∷ record { layout = layout 1 24 38; spelling = spelt 3 (Sharps 1) 1; place = pos 7; key = given 3 }
    -- C### and Ebb, which are one key: Ebb is printed, below, and C### has one sign more
    ∷ record { layout = layout 1 31 49; spelling = spelt 1 (Sharps 3) 0; place = pos 19; key = given 1 }
    ∷ record { layout = layout 1 31 49; spelling = spelt 5 (Flats 2) 0; place = negsuc 11; key = given 1 }
    -- the first letters of other chains: C, β and C
    ∷ record { layout = layout 2 12 19; spelling = spelt 0 (Flats 0) 0; place = negsuc 1; key = given 10 }
    ∷ record { layout = layout 0 16 25; spelling = spelt 0 (Flats 0) 0; place = negsuc 3; key = given 12 }
    ∷ record { layout = layout 5 19 30; spelling = spelt 0 (Flats 0) 0; place = negsuc 2; key = given 15 }
    -- A with as many flats as 32 bits hold
    ∷ record { layout = layout 0 16 25; spelling = spelt 5 (Flats 4294967295) 0; place = negsuc 38654705653; key = given 10 }
    ∷ []

-- What is no spelling, and the number of the question that says so.
pub record RefusedSpelling : Type 0 where
  pub layout : IsomorphicLayout
  pub spelling : Spelling
  pub question : ℕ

abbrev pub refused_spellings : List RefusedSpelling
refused_spellings =
    -- in two cycles: two stars; an eighth letter; 16 comes before 21
    record { layout = layout 1 24 38; spelling = spelt 3 (Sharps 0) 2; question = 21 }
    ∷ record { layout = layout 1 24 38; spelling = spelt 7 (Sharps 0) 1; question = 16 }
    ∷ record { layout = layout 1 24 38; spelling = spelt 7 (Sharps 0) 2; question = 16 }
    -- the layout's questions come first; 18 before 16
    ∷ record { layout = beginning 7 1 24 38; spelling = spelt 7 (Sharps 0) 2; question = 18 }
    ∷ record { layout = layout 6 0 0; spelling = spelt 9 (Sharps 0) 9; question = 1 }
    ∷ record { layout = layout 1 0 19; spelling = spelt 9 (Sharps 0) 9; question = 2 }
    ∷ record { layout = layout 1 12 11; spelling = spelt 9 (Sharps 0) 9; question = 3 }
    ∷ record { layout = layout 2 4 6; spelling = spelt 9 (Sharps 0) 9; question = 4 }
    ∷ []

pub record PrintedExample : Type 0 where
  pub layout : IsomorphicLayout
  pub key : ℤ
  pub spellings : Outcome (List Spelling)

abbrev pub printed_examples : List PrintedExample
printed_examples =
    -- D; D#/Eb; Ebb
    record { layout = layout 1 12 19; key = pos 0; spellings = given (spelt 3 (Sharps 0) 0 ∷ []) }
    ∷ record { layout = layout 1 12 19; key = pos 1; spellings = given (spelt 3 (Sharps 1) 0 ∷ spelt 5 (Flats 1) 0 ∷ []) }
    ∷ record { layout = layout 1 31 49; key = pos 1; spellings = given (spelt 5 (Flats 2) 0 ∷ []) }
    -- B##/Dbb, two signs each: beginning on C, an octave below key 1 (key −30)
    ∷ record { layout = beginning 1 1 31 49; key = negsuc 29; spellings = given (spelt 6 (Sharps 2) 0 ∷ spelt 3 (Flats 2) 0 ∷ []) }
    -- (D#/Eb)*, in the next octave too
    ∷ record { layout = layout 1 24 38; key = pos 3; spellings = given (spelt 3 (Sharps 1) 1 ∷ spelt 5 (Flats 1) 1 ∷ []) }
    ∷ record { layout = layout 1 24 38; key = pos 27; spellings = given (spelt 3 (Sharps 1) 1 ∷ spelt 5 (Flats 1) 1 ∷ []) }
    -- (D#/Eb)* again, an octave below: key −21
    ∷ record { layout = layout 1 24 38; key = negsuc 20; spellings = given (spelt 3 (Sharps 1) 1 ∷ spelt 5 (Flats 1) 1 ∷ []) }
    -- D+/E-
    ∷ record { layout = layout 1 16 25; key = pos 1; spellings = given (spelt 3 (Flats 1) 0 ∷ spelt 5 (Sharps 1) 0 ∷ []) }
    ∷ record { layout = layout 2 4 6; key = pos 0; spellings = refused 4 }
    ∷ []

-- Code 1, 24, 38: seven letters and two cycles.
abbrev pub two_cycles : Layout
two_cycles = record { chain = 1; octave = 24; generator = 14; letters = 7; start = 3; pattern = mos 5 2 4 2 }

-- Theorem.
pub record ExamplesHold : Type 0 where
  pub patterns : map (λ (e : ScaleExample). get_mos e.layout) scale_examples ≡ map (λ (e : ScaleExample). e.pattern) scale_examples
  pub scales : map (λ (e : ScaleExample). get_scale_name e.layout) scale_examples ≡ map (λ (e : ScaleExample). e.scale) scale_examples
  pub names : map (λ (e : NameExample). get_note_name e.layout e.key) name_examples ≡ map (λ (e : NameExample). e.name) name_examples
  pub places : map (λ (e : SpellingExample). of_layout e.layout (λ (l : Layout). given (place_in l e.spelling))) spelling_examples
      ≡ map (λ (e : SpellingExample). given e.place) spelling_examples
  pub keys : map (λ (e : SpellingExample). get_sounded_key e.layout e.spelling) spelling_examples
      ≡ map (λ (e : SpellingExample). e.key) spelling_examples
  pub printings : map (λ (e : PrintedExample). of_layout e.layout (λ (l : Layout). given (printed_in l e.key))) printed_examples
      ≡ map (λ (e : PrintedExample). e.spellings) printed_examples
  pub refusals : map (λ (e : RefusedSpelling). get_sounded_key e.layout e.spelling) refused_spellings
      ≡ map (λ (e : RefusedSpelling). refused e.question) refused_spellings
  -- in two cycles B with three sharps and a star is a spelling; one with an eighth letter, or with a second star, is none
  pub two_cycles_lem : Accepted (layout 1 24 38) two_cycles
  pub b_sharps_star : IsSpelling two_cycles (spelt 6 (Sharps 3) 1)
  pub eighth_letter : IsSpelling two_cycles (spelt 7 (Sharps 0) 0) → ⊥
  pub second_star : IsSpelling two_cycles (spelt 0 (Sharps 0) 2) → ⊥
