-- What a reader of key names may rely on, for every accepted layout: every chain code, octave, tritave and start that questions 1 to 4
-- and 18 let through. Spellings are compared within one layout, so within one start. `Apart d x y` says that x and y differ by a multiple of d; "whole octaves" are multiples of the octave. Proofs: proofs/.
use Rattle.std.specs.Prelude.{ℕ, ◌≤◌, ◌<◌, ◌≡◌, ◌↔◌, ℤ, pos, length, Option, None, Some}
use mathlib.Core.List.{Memᴰ}
use Rattle.answer.specs.Outcome.{Outcome, given, refused, and_then}
use Rattle.genchain.specs.Chains.{chain_of}
use Rattle.genchain.specs.Answers.{generator_outcome}
use Rattle.mos.specs.declared.Mos.{Mos}
use Rattle.mos.specs.Patterns.{genesis}
use Rattle.mos.specs.Walks.{children, first_with}
use Rattle.notes.specs.Names.{letter_text, letter_at}
use Rattle.math.specs.Division.{remainder, Apart}
use Rattle.pergen.specs.declared.Spelling.{Spelling}
use Rattle.pergen.specs.Spelling.{stars_of}
use Rattle.layout.specs.Layouts.{letters_of, Layout, layout_with, layout_outcome, Accepted, default_layout, reduced_in}
use Rattle.layout.specs.Names.{IsSpelling, place_in, key_of, printed_in, cycle_in, text_in}
use Rattle.layout.specs.Answers.{get_note_name, get_sounded_key}
use Rattle.layout.specs.declared.IsomorphicLayout.{IsomorphicLayout}

-- Take any two ways to write a note: each a letter, some sharps or some flats, and fewer stars than there are cycles, whether any
-- cap bears them or not. They are the same key of the octave exactly when they have equally many stars and their places on the
-- chain differ by a multiple of the reduced period.
abbrev pub SpellingsSoundOneKey : Type 0
SpellingsSoundOneKey =
    (r : IsomorphicLayout) (l : Layout) → Accepted r l
    → (x y : Spelling) → IsSpelling l x → IsSpelling l y
    → (key_of l x ≡ key_of l y) ↔ ((x.stars ≡ y.stars) × Apart (reduced_in l) (place_in l x) (place_in l y))

-- Of a spelling, and a key by its number, which may be below 0:
pub record SoundsKey (l : Layout) (key : ℤ) (x : Spelling) : Type 0 where
  -- it is one of the layout's,
  pub spelling : IsSpelling l x
  -- it has the stars of the key's name,
  pub stars : x.stars ≡ stars_of (cycle_in l key)
  -- and it sounds that very key, in each octave.
  pub sounds : key_of l x ≡ remainder key l.octave

-- Of the name of a key, as the naming call writes it:
pub record NameSoundsKey (r : IsomorphicLayout) (l : Layout) (key : ℤ) : Type 0 where
  -- its bytes are the text of the printed spellings, of all of them in their order and of no others, and then the key's stars;
  pub bytes : get_note_name r key ≡ given (text_in l (cycle_in l key) (printed_in l key))
  -- there is at least one;
  pub some : 0 < length (printed_in l key)
  -- and each of them sounds the key.
  pub each : (x : Spelling) → Memᴰ x (printed_in l key) → SoundsKey l key x

-- Every spelling that stands in a key's name, as the naming call writes it, is one that can be played, and it sounds that very key.
abbrev pub NamesSoundTheirKey : Type 0
NamesSoundTheirKey = (r : IsomorphicLayout) (l : Layout) → Accepted r l → (key : ℤ) → NameSoundsKey r l key

-- No two keys of an octave have the same name, and the same key of another octave has the same name: the bytes that
-- `get_note_name` writes for two key numbers, of any sign, are equal exactly when the numbers differ by whole octaves.
abbrev pub NamesTellKeysApart : Type 0
NamesTellKeysApart =
    (r : IsomorphicLayout) (l : Layout) → Accepted r l
    → (x y : ℤ) → (get_note_name r x ≡ get_note_name r y) ↔ Apart l.octave x y

-- An accepted layout has at least as many keys in a cycle as letters: the branch "R below N" is never reached.
abbrev pub EnoughKeys : Type 0
EnoughKeys = (r : IsomorphicLayout) (l : Layout) → Accepted r l → l.letters ≤ reduced_in l

-- A spelling is answered with a key exactly where it is one of those that `SpellingsSoundOneKey` speaks of: in an accepted layout, with a
-- letter of the chain and stars below the cycles. The answer is then the key that it sounds, and no other.
abbrev pub SpellingsHaveAKey : Type 0
SpellingsHaveAKey =
    (r : IsomorphicLayout) (x : Spelling) (key : ℕ)
    → (get_sounded_key r x ≡ given key) ↔ ((l : Layout) × Accepted r l × IsSpelling l x × (key ≡ key_of l x))

-- The name of key 0 is the bare letter at the start, in every layout: no sign, no star.
abbrev pub KeyZeroIsTheStart : Type 0
KeyZeroIsTheStart =
    (r : IsomorphicLayout) (l : Layout) → Accepted r l
    → get_note_name r (pos 0) ≡ given (letter_text (letter_at (chain_of l.chain).letters l.start))

-- ---- at the default start every answer is the old one

-- Document 01's layouts, of three numbers and with the chain's own start; it has no question 18.
abbrev pub first_with_pattern : IsomorphicLayout → ℕ → Option Mos → Outcome Layout
first_with_pattern r G None = refused 4
first_with_pattern r G (Some m) = given (layout_with r G m)

unfoldable pub first_layout : (code octave tritave : ℕ) → Outcome Layout
unfolding generator_outcome children
first_layout code octave tritave =
    and_then (generator_outcome code octave tritave)
    (λ (G : ℕ). first_with_pattern (default_layout code octave tritave) G (first_with (letters_of code) (children (genesis octave G))))

-- The layout of three numbers is document 01's; and whatever is answered about a layout is answered from it.
abbrev pub DefaultStartStays : Type 0
DefaultStartStays = (code octave tritave : ℕ) → layout_outcome (default_layout code octave tritave) ≡ first_layout code octave tritave
