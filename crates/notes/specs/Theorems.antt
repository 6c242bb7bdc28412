-- The theorems on names: what a name tells, and how long it can be. Proofs: proofs/.
use Rattle.std.specs.Prelude.{ℕ, ◌+◌, ◌≤◌, ◌<◌, ◌≡◌, Bool, ◌⊎◌, length}
use mathlib.Core.List.{List, Memᴰ}
use Rattle.genchain.specs.Chains.{chain_of}
use Rattle.pergen.specs.Spelling.{place, stars_of, sharp_spelling, flat_spelling}
use Rattle.pergen.specs.declared.Accidentals.{Accidentals}
use Rattle.pergen.specs.declared.Spelling.{Spelling}
use Rattle.notes.specs.Names.{printed, first_printed, name_text}
use Rattle.notes.specs.Reading.{read_name, sharps_in, flats_in, reading_of}
use Rattle.notes.specs.Answers.{chain_name}

-- "The spellings in a name are the ones printed": each is the key's sharp or its flat spelling, and there is one at least.
pub record PrintedSpellings (sharp_first : Bool) (a : Accidentals) : Type 0 where
  pub each : (s : Spelling) → Memᴰ s (printed sharp_first a) → (s ≡ sharp_spelling a) ⊎ (s ≡ flat_spelling a)
  pub some : Memᴰ (first_printed sharp_first a) (printed sharp_first a)

abbrev pub SpellingsInANameAreTheKeys : Type 0
SpellingsInANameAreTheKeys = (sharp_first : Bool) (a : Accidentals) → PrintedSpellings sharp_first a

-- Both indices are those of letters of the chain.
pub record Lettered (code : ℕ) (a : Accidentals) : Type 0 where
  pub sharp : a.sharp_index < length (chain_of code).letters
  pub flat : a.flat_index < length (chain_of code).letters

-- Reading a name's bytes gives back the first printed spelling: its letter, its sharps, its flats and its stars.
abbrev pub ReadingGivesTheFirstSpelling : Type 0
ReadingGivesTheFirstSpelling =
    (code : ℕ) → code < 6 → (sharp_first : Bool) (a : Accidentals) → Lettered code a
    → read_name sharp_first (chain_name code sharp_first a) ≡ reading_of (chain_of code).letters (first_printed sharp_first a)

-- Two spellings with the same letter, as many sharps, as many flats and as many stars; no sharps and no flats are alike.
pub record SameSpelling (s t : Spelling) : Type 0 where
  pub index : s.index ≡ t.index
  pub sharps : sharps_in s.signs ≡ sharps_in t.signs
  pub flats : flats_in s.signs ≡ flats_in t.signs
  pub stars : s.stars ≡ t.stars
  -- so they stand at one place, whatever the number of letters and the origin
  pub place : (N origin : ℕ) → place N origin s ≡ place N origin t

-- Two keys whose names are equal byte for byte have the same first printed spelling.
abbrev pub EqualNamesHaveOneFirstSpelling : Type 0
EqualNamesHaveOneFirstSpelling =
    (code : ℕ) → code < 6 → (sharp_first : Bool) (a b : Accidentals) → Lettered code a → Lettered code b
    → chain_name code sharp_first a ≡ chain_name code sharp_first b → SameSpelling (first_printed sharp_first a) (first_printed sharp_first b)

-- A name has at most 7 bytes beside its signs and stars, whatever the letters.
abbrev pub NamesAreShort : Type 0
NamesAreShort =
    (letters : List ℕ) (sharp_first : Bool) (a : Accidentals)
    → length (name_text letters sharp_first a) ≤ 7 + (a.sharp_count + a.flat_count) + stars_of a.cycle

-- And it has one byte at least.
abbrev pub NamesAreNotEmpty : Type 0
NamesAreNotEmpty = (letters : List ℕ) (sharp_first : Bool) (a : Accidentals) → 1 ≤ length (name_text letters sharp_first a)
