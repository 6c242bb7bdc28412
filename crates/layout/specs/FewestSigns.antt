-- Our names are the simplest (document 02, W-211): "no spelling that sounds the key, with the same stars, has fewer sharps or flats than the
-- one printed. Where two are printed, both have that least number. This holds for every start and for negative keys."
-- An accepted layout has any start that question 18 lets through, and a key is any integer. Proofs: proofs/FewestSigns.
use Rattle.std.specs.Prelude.{ℕ, ◌≤◌, ◌<◌, ◌≡◌, ◌↔◌, ℤ, length}
use mathlib.Core.List.{[], ◌∷◌, Memᴰ}
use Rattle.math.specs.Division.{remainder}
use Rattle.notes.specs.Names.{signs_in}
use Rattle.notes.specs.Theorems.{SameSpelling}
use Rattle.pergen.specs.declared.Signs.{Signs}
use Rattle.pergen.specs.declared.Signs.TheVariants.{Sharps, Flats}
use Rattle.pergen.specs.declared.Spelling.{Spelling}
use Rattle.pergen.specs.Spelling.{stars_of}
use Rattle.layout.specs.Layouts.{Layout, Accepted}
use Rattle.layout.specs.Names.{IsSpelling, key_of, printed_in, cycle_in}
use Rattle.layout.specs.Theorems.{NameSoundsKey}
use Rattle.layout.specs.declared.IsomorphicLayout.{IsomorphicLayout}

-- How many sharps or flats a spelling has.
abbrev pub sign_count : Spelling → ℕ
sign_count x = signs_in x.signs

-- Any spelling that sounds the key, printed or not: no more is asked of its stars than of every spelling's, that they are below the cycles.
pub record Sounding (l : Layout) (key : ℤ) (x : Spelling) : Type 0 where
  pub spelling : IsSpelling l x
  pub sounds : key_of l x ≡ remainder key l.octave

-- A simplest way to write a key: a spelling that sounds it, where none that sounds it has fewer signs.
pub record Simplest (l : Layout) (key : ℤ) (x : Spelling) : Type 0 where
  pub sounding : Sounding l key x
  pub fewest : (y : Spelling) → Sounding l key y → sign_count x ≤ sign_count y

-- Of one kind of sign, `Sharps` or `Flats`: k is the least number of them with which a spelling sounds the key.
pub record Least (l : Layout) (key : ℤ) (kind : ℕ → Signs) (k : ℕ) : Type 0 where
  pub some : (x : Spelling) × Sounding l key x × (x.signs ≡ kind k)
  pub least : (x : Spelling) (count : ℕ) → Sounding l key x → x.signs ≡ kind count → k ≤ count

-- The least number of sharps and the least number of flats are equal, and more than 0.
abbrev pub EquallyMany : Layout → ℤ → Type 0
EquallyMany l key = (k : ℕ) × (0 < k) × Least l key Sharps k × Least l key Flats k

-- Of the name of a key, as the naming call writes it:
pub record SimplestName (r : IsomorphicLayout) (l : Layout) (key : ℤ) : Type 0 where
  -- its bytes are the text of the printed spellings and of no others, as in demand 3;
  pub name : NameSoundsKey r l key
  -- each of these is a simplest one, so where two are printed, both have that least number of signs;
  pub each : (x : Spelling) → Memᴰ x (printed_in l key) → Simplest l key x
  -- and every simplest one is among these, so beside one there is no second and beside two no third (no sharps and no flats are alike);
  pub every : (y : Spelling) → Simplest l key y → (x : Spelling) × Memᴰ x (printed_in l key) × SameSpelling x y
  -- a bare letter is printed exactly where some spelling without signs sounds the key;
  pub bare : ((x : Spelling) × (printed_in l key ≡ x ∷ []) × (sign_count x ≡ 0)) ↔ ((y : Spelling) × Sounding l key y × (sign_count y ≡ 0))
  -- two are printed exactly where the fewest sharps are as many as the fewest flats, and some;
  pub two : (length (printed_in l key) ≡ 2) ↔ EquallyMany l key
  -- and "with the same stars" would leave no spelling out: whatever sounds the key has the stars of its name.
  pub stars : (y : Spelling) → Sounding l key y → y.stars ≡ stars_of (cycle_in l key)

abbrev pub NamesHaveFewestSigns : Type 0
NamesHaveFewestSigns = (r : IsomorphicLayout) (l : Layout) → Accepted r l → (key : ℤ) → SimplestName r l key
