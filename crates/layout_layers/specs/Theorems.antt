-- What holds of the layers of every accepted layout. Proofs: proofs/Theorems.antt.
use Rattle.std.specs.Prelude.{ℕ, ◌+◌, ◌*◌, ◌≤◌, ◌<◌, ◌≡◌, false, ℤ, pos, length}
use Rattle.pergen.specs.Spelling.{stars_of}
use Rattle.layout.specs.declared.IsomorphicLayout.{IsomorphicLayout}
use Rattle.layout.specs.Layouts.{Layout, Accepted, accidentals_in}
use Rattle.layout_layers.specs.KeyLayers.{equalized, entry_count, number_in, key_number_in, layers_in, count_in}

-- Theorem: T is below the octave's number of keys, by three at least: the natural layer alone has five keys or more.
abbrev pub CountsFit : Type 0
CountsFit = (r : IsomorphicLayout) (l : Layout) → Accepted r l → count_in l + 3 ≤ l.octave

-- Theorem: .. and the octave has at most N × T keys.
abbrev pub KeysByCount : Type 0
KeysByCount = (r : IsomorphicLayout) (l : Layout) → Accepted r l → l.octave ≤ l.letters * count_in l

-- Theorem: the signs of a key's two spellings and its stars are together at most T.
abbrev pub SignsByCount : Type 0
SignsByCount =
    (r : IsomorphicLayout) (l : Layout) → Accepted r l → (key : ℤ)
    → (accidentals_in l key).sharp_count + (accidentals_in l key).flat_count + stars_of (accidentals_in l key).cycle ≤ count_in l

-- Theorem: "Of T numbers": every key's number is below T.
abbrev pub NumbersAreBelow : Type 0
NumbersAreBelow = (r : IsomorphicLayout) (l : Layout) → Accepted r l → (key : ℕ) → number_in l key < count_in l

-- Theorem: key 0 is natural.
abbrev pub KeyZeroIsNatural : Type 0
KeyZeroIsNatural = (r : IsomorphicLayout) (l : Layout) → Accepted r l → number_in l 0 ≡ 0

-- Theorem: no number is idle where the scale is not equalized: each is that of a key of the octave.
abbrev pub EachNumberIsMet : Type 0
EachNumberIsMet =
    (r : IsomorphicLayout) (l : Layout) → Accepted r l → equalized l.pattern ≡ false
    → (j : ℕ) → j < count_in l → (key : ℕ) × (key < l.octave) × (number_in l key ≡ j)

-- Theorem: there are as many entries as `entry_count` says.
abbrev pub EntriesAreCounted : Type 0
EntriesAreCounted = (l : Layout) → length (layers_in l) ≡ entry_count l.octave l.pattern

-- Theorem: the entries repeat, after P keys, or after 2 × P where the scale is equalized.
abbrev pub NumbersRepeat : Type 0
NumbersRepeat =
    (r : IsomorphicLayout) (l : Layout) → Accepted r l → (key : ℕ)
    → number_in l (key + entry_count l.octave l.pattern) ≡ number_in l key

-- Theorem: "Answers for 0 and up are the old ones" (document 02, W-201): of a key number from 0 on, the layer is that of document 01's
-- formula, without a remainder first.
abbrev pub LayersFromZeroOn : Type 0
LayersFromZeroOn =
    (r : IsomorphicLayout) (l : Layout) → Accepted r l → (key : ℕ) → key_number_in l (pos key) ≡ number_in l key
