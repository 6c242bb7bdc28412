-- A sheet of keys in one call (document 02, W-208).
use Rattle.std.specs.Prelude.{ℕ, List, map, ℤ}
use Rattle.math.specs.Division.{remainder}
use Rattle.pergen.specs.declared.Accidentals.{Accidentals}
use Rattle.pergen.specs.Spelling.{stars_of}
use Rattle.layout.specs.Layouts.{Layout, accidentals_in}
use Rattle.layout_lamps.specs.Lamps.{lamp_of, lamp_in, strip_length_in}
use Rattle.layout_sheet.specs.declared.Record.{Record}

-- "each with a key number and a place for its sharp and flat spelling and its lamp code"; the stars are "the cycle number .., 0 if absent"
-- (document 01, "Pergen and spelling").
abbrev pub record_of : ℤ → Accidentals → (lamp : ℕ) → Record
record_of key a lamp =
    record {
      key = key;
      sharp_index = a.sharp_index;
      sharp_count = a.sharp_count;
      flat_index = a.flat_index;
      flat_count = a.flat_count;
      stars = stars_of a.cycle;
      lamp = lamp;
    }

-- "A lamp code is the strip's at the key's remainder, never negative, by the strip's length."
abbrev pub key_lamp_in : Layout → ℤ → ℕ
key_lamp_in l key = lamp_in l (remainder key (strip_length_in l))

-- One record, filled from its own key, which stays.
unfoldable pub record_in : Layout → Record → Record
unfolding accidentals_in lamp_of
record_in l x = record_of x.key (accidentals_in l x.key) (key_lamp_in l x.key)

-- "Every record .., in list order."
abbrev pub sheet_in : Layout → List Record → List Record
sheet_in l records = map (record_in l) records
