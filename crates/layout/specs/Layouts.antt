-- A layout of a chain in a tuning: questions 1 to 4 (document 01, "Questions before an answer" and "The six chains") and 18 (document
-- 02, W-209).
use Rattle.std.specs.Prelude.{ℕ, Bool, ◌≡◌, length, leb, ltb, ℤ, Option, None, Some}
use Rattle.answer.specs.Outcome.{Outcome, given, refused, ask, and_then}
use Rattle.genchain.specs.Chains.{chain_of}
use Rattle.genchain.specs.Answers.{generator_outcome}
use Rattle.mos.specs.declared.Mos.{Mos}
use Rattle.mos.specs.Patterns.{primary, secondary, genesis}
use Rattle.mos.specs.Walks.{children, first_with}
use Rattle.pergen.specs.declared.Accidentals.{Accidentals}
use Rattle.pergen.specs.Pergen.{cycles, reduced}
use Rattle.pergen.specs.Spelling.{key_accidentals}
use Rattle.layout.specs.declared.IsomorphicLayout.{IsomorphicLayout}

-- How many letters a chain has.
abbrev pub letters_of : ℕ → ℕ
letters_of code = length (chain_of code).letters

-- What the questions find, and all that the definitions of keys and names read: "In a layout P is the octave, G the chain's
-- generator, N its number of letters and the origin the start."
pub record Layout : Type 0 where
  -- the chain's code, which says what its letters are
  pub chain : ℕ
  -- P
  pub octave : ℕ
  -- G
  pub generator : ℕ
  -- N
  pub letters : ℕ
  -- the place, from 0, of the letter of key 0
  pub start : ℕ
  -- the pattern with N steps
  pub pattern : Mos

-- What a caller's record, a generator and a pattern make; the start is the record's.
abbrev pub layout_with : IsomorphicLayout → ℕ → Mos → Layout
layout_with r G m =
    record {
      chain = r.genchain;
      octave = r.octave;
      generator = G;
      letters = letters_of r.genchain;
      start = r.start;
      pattern = m;
    }

-- 4. "Does the walk of step patterns meet one with as many steps as the chain has letters? No: 4."
-- 18. "18 when the start is not below the number of letters, after question 4" (document 02, W-209)
abbrev pub with_pattern : IsomorphicLayout → ℕ → Option Mos → Outcome Layout
with_pattern r G None = refused 4
with_pattern r G (Some m) = ask 18 (ltb r.start (letters_of r.genchain)) (given (layout_with r G m))

-- Of a caller's numbers, questions 1 to 3 give the generator, and the walk from its genesis the pattern.
unfoldable pub layout_outcome : IsomorphicLayout → Outcome Layout
unfolding generator_outcome children
layout_outcome r =
    and_then (generator_outcome r.genchain r.octave r.tritave)
    (λ (G : ℕ). with_pattern r G (first_with (letters_of r.genchain) (children (genesis r.octave G))))

-- "A layout is accepted when the questions on it, here 1 to 4, all have the answer yes": and 18.
abbrev pub Accepted : IsomorphicLayout → Layout → Type 0
Accepted r l = layout_outcome r ≡ given l

-- The numbers of an accepted layout, one by one: what the record of a layout that was found keeps.
abbrev pub IsLaid : (chain octave tritave generator letters start : ℕ) → Mos → Type 0
IsLaid chain octave tritave generator letters start m =
    Accepted (record { genchain = chain; octave = octave; tritave = tritave; start = start })
    (record { chain = chain; octave = octave; generator = generator; letters = letters; start = start; pattern = m })

-- "Document 01's start column becomes the default": the record of three numbers, with the chain's own start.
abbrev pub default_layout : (code octave tritave : ℕ) → IsomorphicLayout
default_layout code octave tritave = record { genchain = code; octave = octave; tritave = tritave; start = (chain_of code).start }

-- "n their greatest common divisor (cycles)"
abbrev pub cycles_in : Layout → ℕ
cycles_in l = cycles l.octave l.generator

-- "R = P / n the reduced period"
abbrev pub reduced_in : Layout → ℕ
reduced_in l = reduced l.octave l.generator

-- The spellings of a key: any number, "round the octave with the remainder that is never negative" (document 02, W-201).
unfoldable pub accidentals_in : Layout → ℤ → Accidentals
unfolding key_accidentals
accidentals_in l key = key_accidentals l.octave l.generator l.letters l.start key

-- "If the primary step is at least the secondary, signs are # and b, sharp first"
abbrev pub sharp_first : Layout → Bool
sharp_first l = leb (secondary l.pattern) (primary l.pattern)
