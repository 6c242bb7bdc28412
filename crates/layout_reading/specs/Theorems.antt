-- What whoever types a note name may rely on, for every accepted layout. `NamesLeadBack` and `NamesTellKeysApart` of layout together say
-- that `find_key` and `get_note_name` undo each other on the octave. Proofs: proofs/.
use Rattle.std.specs.Prelude.{ℕ, ◌≤◌, ◌<◌, ◌≡◌, ◌⊎◌, List, [], ◌∷◌, ℤ, Some}
use Rattle.answer.specs.Outcome.{given}
use Rattle.math.specs.Division.{remainder}
use Rattle.pergen.specs.declared.Spelling.{Spelling}
use Rattle.pergen.specs.Pergen.{shown}
use Rattle.notes.specs.Names.{signs_in}
use Rattle.notes.specs.Theorems.{SameSpelling}
use Rattle.layout.specs.Layouts.{Layout, Accepted, cycles_in}
use Rattle.layout.specs.Names.{IsSpelling, key_of, text_in}
use Rattle.layout.specs.Answers.{get_note_name}
use Rattle.layout.specs.declared.IsomorphicLayout.{IsomorphicLayout}
use Rattle.layout_reading.specs.Answers.{get_spelling, get_named_key}

-- ---- what texts there are

-- The text of a spelling: the letter, its signs, its stars, as in a name that holds no other.
abbrev pub text_of : Layout → Spelling → List ℕ
text_of l x = text_in l (Some x.stars) (x ∷ [])

-- The text of two spellings with equally many stars, as a name holds them: "with / between, in parentheses if a cycle is present".
abbrev pub text_of_two : Layout → Spelling → Spelling → List ℕ
text_of_two l x y = text_in l (shown (cycles_in l) x.stars) (x ∷ y ∷ [])

-- A layout's spelling, printed on a cap or not, with as many signs as its record holds: 32 bits.
pub record Typable (l : Layout) (x : Spelling) : Type 0 where
  pub spelling : IsSpelling l x
  pub signs : signs_in x.signs < 4294967296

-- ---- reading undoes writing

-- Of a spelling and its text:
pub record ReadsBack (r : IsomorphicLayout) (l : Layout) (x : Spelling) : Type 0 where
  -- the text is read,
  pub read : Spelling
  pub answered : get_spelling r (text_of l x) ≡ given read
  -- as the same letter, sharps, flats and stars,
  pub same : SameSpelling read x
  -- and the key that it names is the one that the spelling sounds.
  pub key : get_named_key r (text_of l x) ≡ given (key_of l x)

abbrev pub ReadingUndoesWriting : Type 0
ReadingUndoesWriting = (r : IsomorphicLayout) (l : Layout) → Accepted r l → (x : Spelling) → Typable l x → ReadsBack r l x

-- Two spellings that sound one key, in either order, lead to it.
abbrev pub TwoSpellingsLeadToTheirKey : Type 0
TwoSpellingsLeadToTheirKey =
    (r : IsomorphicLayout) (l : Layout) → Accepted r l
    → (x y : Spelling) → Typable l x → Typable l y → y.stars ≡ x.stars → key_of l y ≡ key_of l x
    → get_named_key r (text_of_two l x y) ≡ given (key_of l x)

-- ---- nothing else is read

-- A text that is read is the text of the spelling that is given back, byte for byte.
abbrev pub NothingElseIsRead : Type 0
NothingElseIsRead =
    (r : IsomorphicLayout) (text : List ℕ) (x : Spelling) → get_spelling r text ≡ given x
    → (l : Layout) × Accepted r l × Typable l x × (text_of l x ≡ text)

-- A text that leads to a key is one spelling's, which sounds it,
pub record NamedByOne (l : Layout) (text : List ℕ) (key : ℕ) : Type 0 where
  pub first : Spelling
  pub typable : Typable l first
  pub written : text_of l first ≡ text
  pub sounds : key_of l first ≡ key

-- or that of two, as a name holds them, and both sound it.
pub record NamedByTwo (l : Layout) (text : List ℕ) (key : ℕ) : Type 0 where
  pub first : Spelling
  pub second : Spelling
  pub first_typable : Typable l first
  pub second_typable : Typable l second
  pub same_stars : second.stars ≡ first.stars
  pub written : text_of_two l first second ≡ text
  pub first_sounds : key_of l first ≡ key
  pub second_sounds : key_of l second ≡ key

abbrev pub NothingElseLeadsToAKey : Type 0
NothingElseLeadsToAKey =
    (r : IsomorphicLayout) (text : List ℕ) (key : ℕ) → get_named_key r text ≡ given key
    → (l : Layout) × Accepted r l × (NamedByOne l text key ⊎ NamedByTwo l text key)

-- ---- names lead back

-- For every key number, of any sign, the bytes that `get_note_name` writes lead to that key, brought round the octave.
abbrev pub NamesLeadBack : Type 0
NamesLeadBack =
    (r : IsomorphicLayout) (l : Layout) → Accepted r l → l.octave ≤ 65535
    → (key : ℤ) (text : List ℕ) → get_note_name r key ≡ given text → get_named_key r text ≡ given (remainder key l.octave)
