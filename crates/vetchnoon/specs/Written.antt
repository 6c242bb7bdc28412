-- The lists of numbers that the calls write, each after the questions of its call.
use Rattle.std.specs.Prelude.{ℕ, List, [], ◌∷◌, ◌++◌, leb, ℤ, None, Option, Some}
use Rattle.answer.specs.Outcome.{Outcome, given, ask, and_then}
use Rattle.book.specs.declared.Place.{Place}
use Rattle.book.specs.Books.{find_outcome}
use Rattle.vetchnoon_codes.specs.Numbers.{as_numbers, walk_numbers}
use Rattle.genchain.specs.Answers.{ask_chain}
use Rattle.genchain.specs.Chains.{chain_of}
use Rattle.layout.specs.declared.IsomorphicLayout.{IsomorphicLayout}
use Rattle.layout.specs.Layouts.{Layout, layout_outcome}
use Rattle.layout.specs.Answers.{of_layout}
use Rattle.layout_layers.specs.declared.Layer.{Layer}
use Rattle.layout_layers.specs.declared.Layer.TheVariants.{Natural, Sharp, Enharmonic, Flat}
use Rattle.layout_retuning.specs.declared.Retuning.{Retuning}
use Rattle.mos.specs.declared.Mos.{Mos}
use Rattle.mos.specs.Walks.{children, first_with, fields}
use Rattle.mos.specs.Answers.{genesis_outcome}
use Rattle.pergen.specs.declared.AccidentalsFormat.{AccidentalsFormat}
use Rattle.pergen.specs.declared.Generation.{Generation}
use Rattle.pergen.specs.declared.PerGen.{PerGen}
use Rattle.pergen.specs.declared.Spelling.{Spelling}
use Rattle.pergen.specs.Pergen.{cycles, reduced, inverse}
use Rattle.pergen.specs.Spelling.{signs_of, stars_of}

-- ---- the records that a call's numbers make

-- A period and a generator.
abbrev pub pergen : ℕ → ℕ → PerGen
pergen P G = record { period = P; generator = G }

-- A free format: how many symbols, and the origin.
abbrev pub format : ℕ → ℕ → AccidentalsFormat
format N origin = record { num_symbols = N; genchain_origin = origin }

-- A chain code, an octave, a tritave and a start.
abbrev pub layout : ℕ → ℕ → ℕ → ℕ → IsomorphicLayout
layout code octave tritave start = record { genchain = code; octave = octave; tritave = tritave; start = start }

-- A chain code, an octave and a start, and the tritaves before and after a retuning.
abbrev pub retuning : ℕ → ℕ → ℕ → ℕ → ℕ → Retuning
retuning code octave start from to =
    record { genchain = code; octave = octave; start = start; from_tritave = from; to_tritave = to }

-- A letter's index along the chain, a signed number of signs, and stars.
abbrev pub spelling : ℕ → ℤ → ℕ → Spelling
spelling letter signs stars = record { index = letter; signs = signs_of signs; stars = stars }

-- ---- pergens

-- "n their greatest common divisor (cycles), R = P / n the reduced period", the inverse.
unfoldable pub pergen_numbers : ℕ → ℕ → List ℕ
unfolding inverse
pergen_numbers P G = cycles P G ∷ reduced P G ∷ inverse P G ∷ []

-- Question 2, then these.
unfoldable pub pergen_output : ℕ → ℕ → Outcome (List ℕ)
unfolding pergen_numbers
pergen_output P G = ask 2 (leb 1 P) (given (pergen_numbers P G))

-- 1 if a cycle is present, else 0.
abbrev pub presence : Option ℕ → ℕ
presence None = 0
presence (Some c) = 1

-- The degree, whether a cycle is present, and the cycle, 0 where it is absent.
abbrev pub generation_numbers : Generation → List ℕ
generation_numbers g = g.degree ∷ presence g.cycle ∷ stars_of g.cycle ∷ []

-- ---- step patterns

-- Question 2, then the pattern with so many steps on the walk from the genesis.
unfoldable pub find_output : ℕ → ℕ → ℕ → Outcome (List ℕ)
unfolding genesis_outcome children
find_output P G steps =
    and_then (genesis_outcome P G) (λ (m : Mos). given (walk_numbers (first_with steps (children m))))

-- ---- chains: question 1, then the column "letters" or "chain" of the table

unfoldable pub letters_output : ℕ → Outcome (List ℕ)
unfolding chain_of
letters_output code = ask_chain code (given (chain_of code).letters)

unfoldable pub name_output : ℕ → Outcome (List ℕ)
unfolding chain_of
name_output code = ask_chain code (given (chain_of code).name)

-- ---- layouts

-- The generator, the pergen's numbers and the pattern's.
unfoldable pub layout_numbers : Layout → List ℕ
unfolding pergen_numbers
layout_numbers l = l.generator ∷ (pergen_numbers l.octave l.generator ++ fields l.pattern)

-- Questions 1 to 4 and 18, then these.
unfoldable pub layout_output : IsomorphicLayout → Outcome (List ℕ)
unfolding layout_outcome layout_numbers
layout_output r = of_layout r (λ (l : Layout). given (layout_numbers l))

-- A layer's kind as a number, in the order in which "Step patterns" names the kinds.
abbrev pub kind_number : Layer → ℕ
kind_number Natural = 0
kind_number (Sharp k) = 1
kind_number (Enharmonic k) = 2
kind_number (Flat k) = 3

-- "sharp j − 1", "enharmonic j − 1", "flat T − j − 1": which of its kind it is; the natural layer is the only one.
abbrev pub kind_level : Layer → ℕ
kind_level Natural = 0
kind_level (Sharp k) = k
kind_level (Enharmonic k) = k
kind_level (Flat k) = k

abbrev pub kind_numbers : Layer → List ℕ
kind_numbers layer = kind_number layer ∷ kind_level layer ∷ []

-- ---- books

-- "an offset and a length"
abbrev pub place_numbers : Place → List ℕ
place_numbers place = place.offset ∷ place.length ∷ []

-- Question 10, of a slice with `room` elements: two numbers are written, whatever the book. Then 11 to 13, and the place of the name.
abbrev pub pair_output : ℕ → List ℕ → ℤ → Outcome (List ℕ)
pair_output room book key = ask 10 (leb 2 room) (as_numbers place_numbers (find_outcome book key))
