-- The lamp strip of a layout (document 01, "Lamps and book", as document 02 amends it: W-204, W-206, W-207).
use Rattle.std.specs.Prelude.{ℕ, ◌+◌, ◌%◌, Bool, true, List, [], ◌∷◌, eqb, ltb}
use Rattle.answer.specs.Choice.{pick}
use Rattle.math.specs.Passing.{all_below}
use Rattle.text.specs.Writing.{joined}
use Rattle.mos.specs.declared.Mos.{Mos}
use Rattle.layout.specs.Layouts.{Layout}
use Rattle.layout_layers.specs.declared.Layer.{Layer}
use Rattle.layout_layers.specs.declared.Layer.TheVariants.{Natural, Sharp, Enharmonic, Flat}
use Rattle.layout_layers.specs.LampCodes.{lamp_code}
use Rattle.layout_layers.specs.KeyLayers.{entry_count, layer_number, layer_count, kind_of}

-- "home 0"
abbrev pub home : ℕ
home = 0

-- The kind of entry i's layer.
unfoldable pub kind_at : (P G N start : ℕ) → Mos → ℕ → Layer
unfolding kind_of layer_count layer_number
kind_at P G N start m i = kind_of (layer_count P G m) (layer_number P G N start m i)

-- The code of entry i. "The home rule now goes first" (document 02, W-206): a key whole octaves from key 0 is home, by its note; any other
-- has the colour of its layer.
unfoldable pub lamp_of : (P G N start : ℕ) → Mos → ℕ → ℕ
unfolding lamp_code kind_at
lamp_of P G N start m i = pick (eqb (i % P) 0) home (lamp_code (kind_at P G N start m i))

-- The codes of the first entries, "one element of the strip" each.
unfoldable pub codes_of : (P G N start : ℕ) → Mos → (count : ℕ) → List ℕ
unfolding joined lamp_of
codes_of P G N start m count = joined (λ i. lamp_of P G N start m i ∷ []) count

-- "A lamp strip holds P .. codes"; "2 × octave codes when sharpness is 0, from all layer entries" (document 02, W-204).
abbrev pub strip_length : ℕ → Mos → ℕ
strip_length P m = entry_count P m

unfoldable pub strip_of : (P G N start : ℕ) → Mos → List ℕ
unfolding codes_of
strip_of P G N start m = codes_of P G N start m (strip_length P m)

-- ---- in a layout

abbrev pub lamp_in : Layout → ℕ → ℕ
lamp_in l i = lamp_of l.octave l.generator l.letters l.start l.pattern i

abbrev pub strip_length_in : Layout → ℕ
strip_length_in l = strip_length l.octave l.pattern

abbrev pub strip_in : Layout → List ℕ
strip_in l = strip_of l.octave l.generator l.letters l.start l.pattern

-- One octave, whatever the sharpness, as before W-204, in W-207's codes. Below the octave key 0 alone is home, by W-206's rule and by
-- document 01's. The key table has these codes.
abbrev pub octave_strip_in : Layout → List ℕ
octave_strip_in l = codes_of l.octave l.generator l.letters l.start l.pattern l.octave

-- The code of one entry by the home rule before W-206, key 0 alone, in W-207's codes. For the statement `HomeGoesFirst`.
abbrev pub earlier_lamp_in : Layout → ℕ → ℕ
earlier_lamp_in l i = pick (eqb i 0) home (lamp_code (kind_at l.octave l.generator l.letters l.start l.pattern i))

-- The kind of an entry's layer.
abbrev pub kind_in : Layout → ℕ → Layer
kind_in l i = kind_at l.octave l.generator l.letters l.start l.pattern i

-- ---- codes of one byte, before W-207: for the statements of what became of old strips

-- Document 01: "natural 1, sharp k 2 + k, flat k 102 + k, enharmonic 255".
unfoldable pub byte_code : Layer → ℕ
byte_code Natural = 1
byte_code (Sharp k) = 2 + k
byte_code (Enharmonic k) = 255
byte_code (Flat k) = 102 + k

-- The last strip of one-byte codes: as long as today's (W-204), home where today's is (W-206), and with document 01's codes.
abbrev pub byte_lamp_in : Layout → ℕ → ℕ
byte_lamp_in l i = pick (eqb (i % l.octave) 0) home (byte_code (kind_in l i))

unfoldable pub byte_strip_in : Layout → List ℕ
unfolding joined byte_code kind_at
byte_strip_in l = joined (λ i. byte_lamp_in l i ∷ []) (strip_length_in l)

-- Question 9, of one layer: a sharp or flat layer's number is below 100.
abbrev pub lampable : Layer → Bool
lampable Natural = true
lampable (Sharp k) = ltb k 100
lampable (Enharmonic k) = true
lampable (Flat k) = ltb k 100

-- 9, of that strip, so of all its entries: "Is every sharp and flat layer number of the lamp strip below 100?" Where not, there was none.
unfoldable pub had_lamps_in : Layout → Bool
unfolding all_below kind_at
had_lamps_in l = all_below (λ i. lampable (kind_in l i)) (strip_length_in l)

-- Document 01's own strip, before W-204, W-206 and W-207: "A lamp strip holds P one-byte codes: key 0 is 0, home. Other keys, from the
-- first P layer entries: natural 1, sharp k 2 + k, flat k 102 + k, enharmonic 255."
unfoldable pub first_strip_in : Layout → List ℕ
unfolding joined byte_code kind_at
first_strip_in l = joined (λ i. pick (eqb i 0) home (byte_code (kind_in l i)) ∷ []) l.octave

-- 9, of document 01's own strip, so of the first P entries.
unfoldable pub first_had_lamps_in : Layout → Bool
unfolding all_below kind_at
first_had_lamps_in l = all_below (λ i. lampable (kind_in l i)) l.octave
