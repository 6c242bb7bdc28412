-- What holds of distances, of every accepted layout's letters, and of the keys in reach. `Apart d x y` says that x and y differ by a
-- multiple of d. Proofs: proofs/.
use Rattle.std.specs.Prelude.{ℕ, ◌+◌, ◌*◌, ◌<◌, ◌≤◌, min, true, ◌↔◌, ◌≡◌, ℤ, pos, length, replicate}
use mathlib.Core.List.{◌++◌, Memᴰ}
use Rattle.answer.specs.Outcome.{given}
use Rattle.genchain.specs.Chains.{chain_of}
use Rattle.math.specs.Division.{remainder, Apart}
use Rattle.math.specs.Passing.{run, RisingFrom}
use Rattle.notes.specs.Names.{letter_text, letter_at}
use Rattle.pergen.specs.declared.Signs.TheVariants.{Sharps}
use Rattle.pergen.specs.declared.Spelling.{Spelling}
use Rattle.layout.specs.declared.IsomorphicLayout.{IsomorphicLayout}
use Rattle.layout.specs.Layouts.{Layout, Accepted, cycles_in}
use Rattle.layout.specs.Names.{IsSpelling, key_of, name_in}
use Rattle.layout_reach.specs.Reach.{distance, bears, keys_of, in_reach}
use Rattle.layout_reach.specs.Answers.{get_nearest}

-- ---- distances

pub record RoundTheOctave (octave : ℕ) : Type 0 where
  -- as far there as back
  pub symmetric : (x y : ℤ) → distance octave x y ≡ distance octave y x
  -- at most half the octave
  pub half : (x y : ℤ) → 2 * distance octave x y ≤ octave
  -- 0 exactly for whole octaves
  pub none : (x y : ℤ) → (distance octave x y ≡ 0) ↔ Apart octave x y
  -- whole octaves change no distance
  pub octaves_aside : (x y z : ℤ) → Apart octave x y → distance octave x z ≡ distance octave y z

abbrev pub DistancesRoundTheOctave : Type 0
DistancesRoundTheOctave = (octave : ℕ) → 0 < octave → RoundTheOctave octave

-- ---- the keys of a letter

-- The test says what it is to say: the name's bytes are the letter's with some number of stars.
abbrev pub BearsIsTheName : Type 0
BearsIsTheName =
    (l : Layout) (letter : ℕ) (key : ℤ)
    → (bears l letter key ≡ true)
    ↔ ((stars : ℕ) × (name_in l key ≡ letter_text (letter_at (chain_of l.chain).letters letter) ++ replicate stars 42))

-- A letter without signs.
abbrev pub bare : ℕ → ℕ → Spelling
bare letter stars = record { index = letter; signs = Sharps 0; stars = stars }

-- By letter and signs: those keys have such a name that the letter without signs sounds, with stars below the cycles.
abbrev pub BareLettersSoundTheirKeys : Type 0
BareLettersSoundTheirKeys =
    (r : IsomorphicLayout) (l : Layout) → Accepted r l
    → (letter : ℕ) → letter < l.letters → (key : ℤ)
    → (bears l letter key ≡ true) ↔ ((stars : ℕ) × IsSpelling l (bare letter stars) × (key_of l (bare letter stars) ≡ remainder key l.octave))

-- Every letter has keys, as many as there are cycles: they stand side by side from the one without stars on, within the octave.
pub record LetterHasKeys (l : Layout) (letter : ℕ) : Type 0 where
  pub are : keys_of l letter ≡ run (key_of l (bare letter 0)) (cycles_in l)
  pub many : length (keys_of l letter) ≡ cycles_in l
  pub some : 0 < cycles_in l
  pub within : key_of l (bare letter 0) + cycles_in l ≤ l.octave

abbrev pub LettersHaveKeys : Type 0
LettersHaveKeys = (r : IsomorphicLayout) (l : Layout) → Accepted r l → (letter : ℕ) → letter < l.letters → LetterHasKeys l letter

-- ---- the nearest

-- A key of the octave that has the letter's name, than which no other is nearer, and of equally near ones the lowest.
pub record IsNearest (l : Layout) (key : ℤ) (letter k : ℕ) : Type 0 where
  pub below : k < l.octave
  pub bears_it : bears l letter (pos k) ≡ true
  pub least : (j : ℕ) → j < l.octave → bears l letter (pos j) ≡ true → distance l.octave (pos k) key ≤ distance l.octave (pos j) key
  pub lower : (j : ℕ) → j < l.octave → bears l letter (pos j) ≡ true → distance l.octave (pos k) key ≡ distance l.octave (pos j) key
      → k ≤ j

-- That key is answered, and no other, for every accepted layout, letter of its chain and key; and nothing else is answered with a key.
abbrev pub NearestIsAnswered : Type 0
NearestIsAnswered =
    (r : IsomorphicLayout) (key : ℤ) (letter k : ℕ)
    → (get_nearest r key letter ≡ given k) ↔ ((l : Layout) × Accepted r l × (letter < l.letters) × IsNearest l key letter k)

-- There is one.
abbrev pub SomeNearest : Type 0
SomeNearest =
    (r : IsomorphicLayout) (l : Layout) → Accepted r l
    → (letter : ℕ) → letter < l.letters → (key : ℤ) → (k : ℕ) × (get_nearest r key letter ≡ given k)

-- ---- the keys in reach

pub record ReachIs (octave : ℕ) (key : ℤ) (d : ℕ) : Type 0 where
  pub rising : RisingFrom 0 (in_reach octave key d)
  -- those in reach, and no others
  pub exactly : (k : ℕ) → Memᴰ k (in_reach octave key d) ↔ ((k < octave) × (distance octave (pos k) key ≤ d))
  -- as many on either side as the distance says, and the key's own; never more than all
  pub many : length (in_reach octave key d) ≡ min (2 * d + 1) octave
  -- from half the octave on, all of them
  pub whole : octave ≤ 2 * d + 1 → in_reach octave key d ≡ run 0 octave

abbrev pub ReachIsExact : Type 0
ReachIsExact = (octave : ℕ) → 0 < octave → (key : ℤ) (d : ℕ) → ReachIs octave key d
