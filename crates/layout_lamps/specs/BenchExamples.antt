-- Document 01's bench examples that are marked P, as document 02 amends them: one list of data, in the document's order, and one theorem
-- that each holds.
use Rattle.std.specs.Prelude.{pos, ℕ, ◌<◌, List, [], ◌∷◌, ◌≡◌}
use Rattle.answer.specs.Outcome.{Outcome, given, refused, and_then}
use Rattle.mos_layers.specs.Layers.{layer_sizes}
use Rattle.mos.specs.declared.Mos.{Mos}
use Rattle.mos.specs.Patterns.{mos}
use Rattle.pergen.specs.declared.Accidentals.{Accidentals}
use Rattle.pergen.specs.Answers as Pergen
use Rattle.pergen.specs.Examples.{pergen, format}
use Rattle.layout.specs.Answers.{get_mos, get_scale_name, get_note_name}
use Rattle.layout.specs.Layouts.{layout_outcome}
use Rattle.layout.specs.Examples.{layout, beginning}
use Rattle.layout_lamps.specs.Answers.{get_strip}

pub data Example : Type 0 where
  -- the pattern of a layout, or its refusal: chain code, octave, tritave
  pattern : (code octave tritave : ℕ) → Outcome Mos → Example
  -- every layout with octave 0, whatever its chain, tritave and start: the number of its refusal
  no_octave : ℕ → Example
  -- the layer sizes of a layout
  sizes : (code octave tritave : ℕ) → List ℕ → Example
  -- its scale name
  scale : (code octave tritave : ℕ) → List ℕ → Example
  -- the name of one of its keys
  name : (code octave tritave key : ℕ) → List ℕ → Example
  -- its lamp strip
  strip : (code octave tritave : ℕ) → List ℕ → Example
  -- sharp and flat index of a key in a free format: period, generator, symbols, origin, key
  indices : (P G N origin key : ℕ) → ℕ × ℕ → Example

abbrev pub examples : List Example
examples =
    -- "code 1, 12, 19: counts 5 and 2, steps 2 and 1, diatonic."
    pattern 1 12 19 (given (mos 5 2 2 1))
    ∷ scale 1 12 19 (100 ∷ 105 ∷ 97 ∷ 116 ∷ 111 ∷ 110 ∷ 105 ∷ 99 ∷ [])
    -- "code 1, 31, 49: steps 5 and 3; layer sizes 7 7 5 5 7."
    ∷ pattern 1 31 49 (given (mos 5 2 5 3))
    ∷ sizes 1 31 49 (7 ∷ 7 ∷ 5 ∷ 5 ∷ 7 ∷ [])
    -- "code 1, 19, 30: layer sizes 7 5 2 5."
    ∷ sizes 1 19 30 (7 ∷ 5 ∷ 2 ∷ 5 ∷ [])
    -- "code 0, 12, 19: 4.", "code 3, 12, 19: 3.", "octave 0: 2."
    ∷ pattern 0 12 19 (refused 4)
    ∷ pattern 3 12 19 (refused 3)
    ∷ no_octave 2
    -- "code 1, 24, 38: keys 1, 2, 3 are D*, (D#/Eb), (D#/Eb)*."
    ∷ name 1 24 38 1 (68 ∷ 42 ∷ [])
    ∷ name 1 24 38 2 (40 ∷ 68 ∷ 35 ∷ 47 ∷ 69 ∷ 98 ∷ 41 ∷ [])
    ∷ name 1 24 38 3 (40 ∷ 68 ∷ 35 ∷ 47 ∷ 69 ∷ 98 ∷ 41 ∷ 42 ∷ [])
    -- "code 5, 19, 30: counts 4 and 3, steps 4 and 1."
    ∷ pattern 5 19 30 (given (mos 4 3 4 1))
    -- "period 5, generator 3, 7 symbols, origin 3: key 1 has indices 5 and 0; key 2 has 2 and 2."
    ∷ indices 5 3 7 3 1 (5, 0)
    ∷ indices 5 3 7 3 2 (2, 2)
    -- "code 1, 7, 11: equalized", and the 7-step example of document 02, W-204, whose entry at the octave is home since W-206 and whose
    -- enharmonic code is 65,535 since W-207
    ∷ scale 1 7 11 (101 ∷ 113 ∷ 117 ∷ 97 ∷ 108 ∷ 105 ∷ 122 ∷ 101 ∷ 100 ∷ [])
    ∷ strip 1 7 11 (0 ∷ 1 ∷ 65535 ∷ 65535 ∷ 65535 ∷ 65535 ∷ 1 ∷ 0 ∷ 1 ∷ 65535 ∷ 65535 ∷ 65535 ∷ 65535 ∷ 1 ∷ [])
    ∷ []

-- What an example says.
abbrev pub Holds : Example → Type 0
Holds (pattern code octave tritave m) = get_mos (layout code octave tritave) ≡ m
Holds (no_octave n) = (code tritave start : ℕ) → code < 6 → layout_outcome (beginning start code 0 tritave) ≡ refused n
Holds (sizes code octave tritave s) = and_then (get_mos (layout code octave tritave)) (λ (m : Mos). given (layer_sizes m)) ≡ given s
Holds (scale code octave tritave text) = get_scale_name (layout code octave tritave) ≡ given text
Holds (name code octave tritave key text) = get_note_name (layout code octave tritave) (pos key) ≡ given text
Holds (strip code octave tritave codes) = get_strip (layout code octave tritave) ≡ given codes
Holds (indices P G N origin key both) =
    and_then (Pergen.get_accidentals (pergen P G) (format N origin) (pos key))
    (λ (a : Accidentals). given (a.sharp_index, a.flat_index)) ≡ given both

abbrev pub All : List Example → Type 0
All [] = Unit
All (e ∷ es) = Holds e × All es

-- Theorem: every example holds.
abbrev pub BenchExamplesHold : Type 0
BenchExamplesHold = All examples
