-- What holds of every sheet. Proofs: proofs/Theorems.antt.
use Rattle.std.specs.Prelude.{ℕ, ◌<◌, ◌≡◌, ◌↔◌, List, [], length, get_or}
use Rattle.answer.specs.Outcome.{given, refused}
use Rattle.math.specs.Division.{remainder}
use Rattle.pergen.specs.declared.Accidentals.{Accidentals}
use Rattle.pergen.specs.declared.Signs.TheVariants.{Sharps, Flats}
use Rattle.pergen.specs.declared.Spelling.{Spelling}
use Rattle.pergen.specs.Spelling.{sharp_spelling, flat_spelling}
use Rattle.layout.specs.declared.IsomorphicLayout.{IsomorphicLayout}
use Rattle.layout.specs.Layouts.{Layout, layout_outcome, Accepted}
use Rattle.layout.specs.Answers.{get_accidentals, get_sounded_key}
use Rattle.layout.specs.Theorems.{SoundsKey}
use Rattle.layout_lamps.specs.Answers.{get_strip, get_lamp}
use Rattle.layout_sheet.specs.declared.Record.{Record}
use Rattle.layout_sheet.specs.Sheets.{record_in}
use Rattle.layout_sheet.specs.Answers.{get_sheet}

-- The sharp and the flat spelling that a record holds.
abbrev pub sharp_of : Record → Spelling
sharp_of x = record { index = x.sharp_index; signs = Sharps x.sharp_count; stars = x.stars }

abbrev pub flat_of : Record → Spelling
flat_of x = record { index = x.flat_index; signs = Flats x.flat_count; stars = x.stars }

-- Number and order stay: the lists are equally long, and each record comes from the one at its own place.
pub record PlaceByPlace (From : Record → Record → Type 0) (before after : List Record) : Type 0 where
  pub length_kept : length after ≡ length before
  pub each : (i : ℕ) (other : Record) → i < length before → From (get_or before i other) (get_or after i other)

-- "what single calls would have given", of a record before the call and after it:
pub record FromSingleCalls (r : IsomorphicLayout) (before after : Record) : Type 0 where
  -- its key is as it was,
  pub key_kept : after.key ≡ before.key
  -- its spellings are those of `get_accidentals` of that key, with the cycle's number as stars, 0 if absent,
  pub spelled : Accidentals
  pub spellings : get_accidentals r before.key ≡ given spelled
  pub sharp : sharp_of after ≡ sharp_spelling spelled
  pub flat : flat_of after ≡ flat_spelling spelled
  -- and its code is that of `lamp` of that key.
  pub lamp : get_lamp r before.key ≡ given after.lamp

-- Theorem: "Every record shall hold what single calls would have given, in list order."
abbrev pub SheetsHoldSingleCalls : Type 0
SheetsHoldSingleCalls =
    (r : IsomorphicLayout) (before after : List Record) → get_sheet r before ≡ given after → PlaceByPlace (FromSingleCalls r) before after

-- Theorem: "A lamp code is the strip's at the key's remainder, never negative, by the strip's length."
abbrev pub LampsAreTheStrips : Type 0
LampsAreTheStrips =
    (r : IsomorphicLayout) (before after : List Record) (strip : List ℕ) → get_sheet r before ≡ given after → get_strip r ≡ given strip
    → PlaceByPlace (λ x y. y.lamp ≡ get_or strip (remainder x.key (length strip)) 0) before after

-- Of a record after the call, and the key that was asked for: both spellings are the layout's, have the stars of the key's name and sound
-- that very key; and `get_sounded_key` says so.
pub record SoundsItsKey (r : IsomorphicLayout) (l : Layout) (before after : Record) : Type 0 where
  pub sharp : SoundsKey l before.key (sharp_of after)
  pub flat : SoundsKey l before.key (flat_of after)
  pub sharp_asked : get_sounded_key r (sharp_of after) ≡ given (remainder before.key l.octave)
  pub flat_asked : get_sounded_key r (flat_of after) ≡ given (remainder before.key l.octave)

-- Theorem: every spelling on a sheet sounds the key that it stands beside.
abbrev pub SheetsSoundTheirKeys : Type 0
SheetsSoundTheirKeys =
    (r : IsomorphicLayout) (l : Layout) → Accepted r l → (before after : List Record) → get_sheet r before ≡ given after
    → PlaceByPlace (SoundsItsKey r l) before after

-- Theorem: "The same key may stand twice": records of one key are filled alike, whatever they held before.
abbrev pub OnlyTheKeyCounts : Type 0
OnlyTheKeyCounts = (l : Layout) (x y : Record) → x.key ≡ y.key → record_in l x ≡ record_in l y

-- Theorem: a sheet is refused exactly where its layout is, and with its number, whatever is on the sheet; an empty one too, which is fine
-- in an accepted layout.
pub record RefusedByItsLayout : Type 0 where
  pub refusals : (r : IsomorphicLayout) (before : List Record) (n : ℕ) → (get_sheet r before ≡ refused n) ↔ (layout_outcome r ≡ refused n)
  pub empty : (r : IsomorphicLayout) (l : Layout) → Accepted r l → get_sheet r [] ≡ given []
