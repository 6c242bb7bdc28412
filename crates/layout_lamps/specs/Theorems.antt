-- What holds of every strip. Proofs: proofs/Theorems.antt.
use Rattle.std.specs.Prelude.{ℕ, ◌%◌, ◌≤◌, ◌<◌, ◌↔◌, ◌≡◌, true, false, leb, ℤ, pos, length, take}
use Rattle.answer.specs.Outcome.{given, ask}
use Rattle.math.specs.Division.{Apart}
use Rattle.layout.specs.declared.IsomorphicLayout.{IsomorphicLayout}
use Rattle.layout.specs.Layouts.{Layout, Accepted}
use Rattle.layout_layers.specs.declared.Layer.TheVariants.{Flat}
use Rattle.layout_layers.specs.KeyLayers.{equalized, count_in}
use Rattle.lamp_codes.specs.Answers.{get_widened, get_narrowed}
use Rattle.layout_lamps.specs.Answers.{get_lamp}
use Rattle.layout_layers.specs.LampCodes.{lamp_code}
use Rattle.layout_lamps.specs.Lamps.{lamp_in, strip_length_in, strip_in, octave_strip_in, earlier_lamp_in, kind_in, byte_strip_in, had_lamps_in, first_strip_in, first_had_lamps_in}

-- Theorem: "Question 9 then always has the answer yes": in every octave of at most 65,535 keys every code is a number of 16 bits.
abbrev pub CodesFit : Type 0
CodesFit = (r : IsomorphicLayout) (l : Layout) → Accepted r l → l.octave ≤ 65535 → (key : ℕ) → lamp_in l key ≤ 65535

-- Theorem: no two kinds share a code: entries with the same code have layers of the same kind and number, or both are home. Flat layer
-- 32,766 would have the enharmonic code; there is none, since T is below the octave by the keys of the natural layer.
pub record CodesTellKindsApart (l : Layout) : Type 0 where
  pub kinds : (i j : ℕ) → lamp_code (kind_in l i) ≡ lamp_code (kind_in l j) → kind_in l i ≡ kind_in l j
  pub home_alone : (i : ℕ) → 0 < lamp_code (kind_in l i)
  pub no_such_flat : (i k : ℕ) → kind_in l i ≡ Flat k → k < 32766

abbrev pub NoCodeIsShared : Type 0
NoCodeIsShared = (r : IsomorphicLayout) (l : Layout) → Accepted r l → l.octave ≤ 65535 → CodesTellKindsApart l

-- Theorem: "Stored one-byte strips are converted without loss": a layout's last strip of one-byte codes, where it had one, is widened to
-- the strip of today; and that goes back to the old one, or is refused with 17 where there was none.
pub record StripsConvert (l : Layout) : Type 0 where
  pub there : had_lamps_in l ≡ true → get_widened (byte_strip_in l) ≡ given (strip_in l)
  pub back : get_narrowed (strip_in l) ≡ ask 17 (had_lamps_in l) (given (byte_strip_in l))

abbrev pub OldStripsConvert : Type 0
OldStripsConvert = (r : IsomorphicLayout) (l : Layout) → Accepted r l → StripsConvert l

-- Theorem: document 01's own strip, where its question 9 said yes, is widened to the first octave of today's strip, whatever the sharpness;
-- and that octave goes back to it, or is refused with 17 where the question said no.
pub record FirstStripConverts (l : Layout) : Type 0 where
  pub there : first_had_lamps_in l ≡ true → get_widened (first_strip_in l) ≡ given (take l.octave (strip_in l))
  pub back : get_narrowed (take l.octave (strip_in l)) ≡ ask 17 (first_had_lamps_in l) (given (first_strip_in l))

abbrev pub FirstStripsConvert : Type 0
FirstStripsConvert = (r : IsomorphicLayout) (l : Layout) → Accepted r l → FirstStripConverts l

-- Theorem: a layout had a strip of one-byte codes, document 01's own and the last one alike, exactly where T is at most 202.
abbrev pub LampsByCount : Type 0
LampsByCount =
    (r : IsomorphicLayout) (l : Layout) → Accepted r l
    → (first_had_lamps_in l ≡ leb (count_in l) 202) × (had_lamps_in l ≡ leb (count_in l) 202)

-- Theorem: home's code is that of the keys whole octaves from key 0, and of no others.
abbrev pub OneHome : Type 0
OneHome = (l : Layout) (key : ℕ) → (lamp_in l key ≡ 0) ↔ (key % l.octave ≡ 0)

-- Theorem: so one key's lamp is home's exactly where the key is whole octaves from key 0, above or below it.
abbrev pub HomeKeys : Type 0
HomeKeys =
    (r : IsomorphicLayout) (l : Layout) → Accepted r l → (key : ℤ) → (get_lamp r key ≡ given 0) ↔ Apart l.octave key (pos 0)

-- Theorem: a strip has a code for each entry: for each key of the octave, or of two where the scale is equalized.
abbrev pub StripsAreWhole : Type 0
StripsAreWhole = (l : Layout) → length (strip_in l) ≡ strip_length_in l

-- Theorem: what W-204 leaves as it was. Where sharpness is not 0 the strip is one octave, and at sharpness 0 its first half is that octave.
-- (`FirstStripsConvert` says that the octave is document 01's strip, in today's codes.)
pub record FirstOctaveStays : Type 0 where
  pub unchanged : (l : Layout) → equalized l.pattern ≡ false → strip_in l ≡ octave_strip_in l
  pub first_half : (l : Layout) → equalized l.pattern ≡ true → take l.octave (strip_in l) ≡ octave_strip_in l

-- Theorem: "The old answers that change are the entry at octave in every equalized strip, and nothing else" (document 02, W-206), told in
-- today's codes.
pub record HomeGoesFirst (l : Layout) : Type 0 where
  -- in a strip of two octaves, the entry at the octave had a layer's colour and is home now;
  pub at_octave : equalized l.pattern ≡ true
      → (l.octave < strip_length_in l) × (0 < earlier_lamp_in l l.octave) × (lamp_in l l.octave ≡ 0)
  -- every other entry of every strip is what it was.
  pub elsewhere : (entry : ℕ) → entry < strip_length_in l → (entry ≡ l.octave → ⊥) → lamp_in l entry ≡ earlier_lamp_in l entry

abbrev pub HomeChangesOneEntry : Type 0
HomeChangesOneEntry = (r : IsomorphicLayout) (l : Layout) → Accepted r l → HomeGoesFirst l
