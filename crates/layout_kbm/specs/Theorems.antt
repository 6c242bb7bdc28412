-- What holds of every layout's keyboard mapping, and of every text that is read. Proofs: proofs/Natural.antt, KeysRead.antt.
use Rattle.std.specs.Prelude.{ℕ, ◌+◌, ◌*◌, ◌≤◌, ◌<◌, true, ◌↔◌, ◌≡◌, length, get_or}
use mathlib.Core.List.{List, Memᴰ}
use Rattle.answer.specs.Outcome.{given}
use Rattle.layout.specs.declared.IsomorphicLayout.{IsomorphicLayout}
use Rattle.layout.specs.Layouts.{Layout, Accepted}
use Rattle.layout_layers.specs.KeyLayers.{kind_of, number_in, count_in}
use Rattle.layout_layers.specs.declared.Layer.TheVariants.{Natural}
use Rattle.math.specs.Passing.{RisingFrom}
use Rattle.kbm_text.specs.Lines.{lines}
use Rattle.kbm_text.specs.Reading.{said}
use Rattle.kbm_text.specs.declared.kinds.Kind.{Kind}
use Rattle.kbm_text.specs.declared.kinds.Kind.TheVariants.{Number, Other}
use Rattle.layout_kbm.specs.Mappings.{natural, mapping_in, natural_keys, get_kbm, get_mapped_keys}

-- Theorem: the test says what it is to say: the kind of the key's layer is natural.
abbrev pub NaturalIsItsLayer : Type 0
NaturalIsItsLayer = (l : Layout) (key : ℕ) → (natural l key ≡ true) ↔ (kind_of (count_in l) (number_in l key) ≡ Natural)

-- Theorem: "what we write reads back as the natural keys".
abbrev pub NaturalKeysReadBack : Type 0
NaturalKeysReadBack =
    (r : IsomorphicLayout) (l : Layout) → Accepted r l → l.octave ≤ 65535 → get_mapped_keys r (mapping_in l) ≡ given (natural_keys l)

-- Theorem: .. and these are the keys of the octave that are natural, each once, rising.
pub record NaturalKeysAre (l : Layout) : Type 0 where
  pub rising : RisingFrom 0 (natural_keys l)
  pub exactly : (key : ℕ) → Memᴰ key (natural_keys l) ↔ ((key < l.octave) × (natural l key ≡ true))

abbrev pub NaturalKeysAreExact : Type 0
NaturalKeysAreExact = (l : Layout) → NaturalKeysAre l

-- What stands on line 7 + k of a text, those that are skipped left out: entry k.
abbrev pub entry : List ℕ → ℕ → Kind
entry text k = get_or (said (lines text)) (7 + k) Other

-- Theorem: whatever text is read, the list rises, so no key stands there twice, and a key of the octave stands in it exactly where its
-- entry is a number; that number is the key.
pub record KeysAre (octave : ℕ) (text keys : List ℕ) : Type 0 where
  pub rising : RisingFrom 0 keys
  pub exactly : (key : ℕ) → Memᴰ key keys ↔ ((key < octave) × (entry text key ≡ Number key))
  pub own_number : (key n : ℕ) → key < octave → entry text key ≡ Number n → n ≡ key

abbrev pub KeysAreTheNumbers : Type 0
KeysAreTheNumbers =
    (r : IsomorphicLayout) (text keys : List ℕ) → get_mapped_keys r text ≡ given keys → KeysAre r.octave text keys

-- Theorem: how much room holds every file (of octaves of 16 bits).
abbrev pub FilesFit : Type 0
FilesFit = (r : IsomorphicLayout) (text : List ℕ) → r.octave ≤ 65535 → get_kbm r ≡ given text → length text ≤ 6 * r.octave + 35
