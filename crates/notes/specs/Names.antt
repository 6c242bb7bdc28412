-- The text of a key's name (document 01, "Pergen and spelling", the paragraph "Name"), as bytes of UTF-8.
-- `sharp_first` says whether the primary step is at least the secondary; `letters` are a chain's code points.
use Rattle.std.specs.Prelude.{ℕ, ◌+◌, ◌/◌, ◌%◌, Bool, true, false, List, [], ◌∷◌, ◌++◌, replicate, get_or, eqb, ltb, None, Option, Some}
use Rattle.answer.specs.Choice.{pick}
use Rattle.pergen.specs.Spelling.{stars_of, sharp_spelling, flat_spelling}
use Rattle.pergen.specs.declared.Accidentals.{Accidentals}
use Rattle.pergen.specs.declared.Signs.{Signs}
use Rattle.pergen.specs.declared.Signs.TheVariants.{Sharps, Flats}
use Rattle.pergen.specs.declared.Spelling.{Spelling}

-- ---- signs: "If the primary step is at least the secondary, signs are # and b ..; else - for sharp and + for flat"

-- 35 is #, 45 is -
abbrev pub sharp_sign : Bool → ℕ
sharp_sign true = 35
sharp_sign false = 45

-- 98 is b, 43 is +
abbrev pub flat_sign : Bool → ℕ
flat_sign true = 98
flat_sign false = 43

-- how many sharps or flats they are
abbrev pub signs_in : Signs → ℕ
signs_in (Sharps count) = count
signs_in (Flats count) = count

-- one for each sharp or flat
abbrev pub signs_text : Bool → Signs → List ℕ
signs_text sharp_first (Sharps count) = replicate count (sharp_sign sharp_first)
signs_text sharp_first (Flats count) = replicate count (flat_sign sharp_first)

-- ---- a letter: "Text is UTF-8"

-- one byte below 128, else two, which hold code points below 2048
unfoldable pub letter_text : ℕ → List ℕ
letter_text c = pick (ltb c 128) (c ∷ []) ((192 + c / 64) ∷ (128 + c % 64) ∷ [])

-- The letter at an index; past the last a question mark (63), which no layout prints.
unfoldable pub letter_at : List ℕ → ℕ → ℕ
letter_at letters index = get_or letters index 63

-- A letter and its signs.
unfoldable pub spelling_text : List ℕ → Bool → Spelling → List ℕ
unfolding letter_text letter_at
spelling_text letters sharp_first s = letter_text (letter_at letters s.index) ++ signs_text sharp_first s.signs

-- ---- which spellings are printed, in their order

abbrev pub and : Bool → Bool → Bool
and true b = b
and false b = false

-- "both counts 0 and equal indices"
unfoldable pub letter_alone : Accidentals → Bool
letter_alone a = and (eqb a.sharp_count 0) (and (eqb a.flat_count 0) (eqb a.sharp_index a.flat_index))

-- "sharp first", or "flat first"
abbrev pub in_order : Bool → Spelling → Spelling → List Spelling
in_order true sharp flat = sharp ∷ flat ∷ []
in_order false sharp flat = flat ∷ sharp ∷ []

-- "give the letter. Otherwise the spelling with fewer signs; equal counts give both"
unfoldable pub printed : Bool → Accidentals → List Spelling
unfolding letter_alone sharp_spelling flat_spelling
printed sharp_first a =
    pick (letter_alone a) (sharp_spelling a ∷ [])
    (pick (ltb a.sharp_count a.flat_count) (sharp_spelling a ∷ [])
    (pick (ltb a.flat_count a.sharp_count) (flat_spelling a ∷ [])
    (in_order sharp_first (sharp_spelling a) (flat_spelling a))))

-- The first of them; the list is never empty.
unfoldable pub first_printed : Bool → Accidentals → Spelling
unfolding printed
first_printed sharp_first a = get_or (printed sharp_first a) 0 (sharp_spelling a)

-- ---- the name

-- "in parentheses if a cycle is present, even cycle 0": 40 is (, 41 is )
abbrev pub in_parentheses : Option ℕ → List ℕ → List ℕ
in_parentheses None text = text
in_parentheses (Some c) text = (40 ∷ []) ++ text ++ (41 ∷ [])

-- "with / between": 47 is /
abbrev pub slashed : List ℕ → Bool → List Spelling → List ℕ
slashed letters sharp_first [] = []
slashed letters sharp_first (s ∷ []) = spelling_text letters sharp_first s
slashed letters sharp_first (s ∷ t ∷ more) = spelling_text letters sharp_first s ++ (47 ∷ []) ++ slashed letters sharp_first (t ∷ more)

-- one spelling alone, or both so
abbrev pub spellings_text : List ℕ → Bool → Option ℕ → List Spelling → List ℕ
spellings_text letters sharp_first c [] = []
spellings_text letters sharp_first c (s ∷ []) = spelling_text letters sharp_first s
spellings_text letters sharp_first c (s ∷ t ∷ more) = in_parentheses c (slashed letters sharp_first (s ∷ t ∷ more))

-- The text of a name that holds these spellings. "Then one * per cycle number": 42 is *
abbrev pub printed_text : List ℕ → Bool → Option ℕ → List Spelling → List ℕ
printed_text letters sharp_first c spellings = spellings_text letters sharp_first c spellings ++ replicate (stars_of c) 42

-- The name of a key with these accidentals.
unfoldable pub name_text : List ℕ → Bool → Accidentals → List ℕ
unfolding spelling_text printed
name_text letters sharp_first a = printed_text letters sharp_first a.cycle (printed sharp_first a)
