-- Which keys spellings and names mean, in an accepted layout: pergen's theorems for its period and generator, and the reading of names.
use Rattle.std.specs.Prelude.{Option}
use Prim.Native.Nat.{ℕ, ◌<◌}
use mathlib.Core.Path.{◌≡◌, refl, sym, ap, ap₂, ◌∙◌, subst}
use mathlib.Core.Logic.{◌⊎◌, inl, inr}
use mathlib.Core.List.Memᴰ
use mathlib.Core.List.{List, [], ◌∷◌, Memᴰ}
use native.Mathlib.Omega.{arith}
use lib.IntN.{ℤ}
use lib.ListN.{length}
use Rattle.answer.specs.Outcome.{given}
use Rattle.answer.proofs.Asked.{given_same}
use Rattle.genchain.specs.Chains.{chain_of}
use Rattle.math.specs.Division.{remainder, Apart}
use Rattle.math.proofs.Division.{remainder→apart}
use Rattle.notes.specs.Names.{printed, first_printed, name_text}
use Rattle.notes.specs.Answers.{chain_name}
use Rattle.notes.specs.Theorems.{Lettered, SameSpelling}
use Rattle.notes.proofs.Printing.{spellings_in_a_name_are_the_keys}
use Rattle.notes.proofs.OneSpelling.{equal_names_have_one_first_spelling}
use Rattle.pergen.specs.declared.Accidentals.{Accidentals}
use Rattle.pergen.specs.declared.Spelling.{Spelling}
use Rattle.pergen.specs.Pergen.{shown, key_degree, key_cycle, cycle_of}
use Rattle.pergen.specs.Spelling.{accidentals_of, key_accidentals, sounds, stars_of, sharp_spelling, flat_spelling}
use Rattle.pergen.proofs.Keys.{spellings_of_one_key, degree_and_cycle_tell_keys_apart, key_cycle_below}
use Rattle.pergen.proofs.DegreePlaces.{accidentals_sound_their_key, cycle_kept, stars_are}
use Rattle.layout.specs.Layouts.{Layout, cycles_in, reduced_in, accidentals_in, sharp_first}
use Rattle.layout.specs.Names.{place_in, key_of, printed_in, cycle_in, text_in, name_in}
use Rattle.layout.specs.Answers.{get_note_name}
use Rattle.layout.specs.Theorems.{SpellingsSoundOneKey, SoundsKey, NamesSoundTheirKey, NamesTellKeysApart, EnoughKeys}
use Rattle.layout.proofs.Finding.{Parts, accepted}
use Rattle.layout.proofs.PatternShape.{pattern_shape}
use Rattle.layout.proofs.Calls.{name_given}

pub enough_keys : EnoughKeys
enough_keys r l e = (pattern_shape l (accepted r l e)).enough_keys

pub spellings_sound_one_key : SpellingsSoundOneKey
unfolding key_of place_in
spellings_sound_one_key r l e x y hx hy =
    spellings_of_one_key l.octave l.generator (accepted r l e).positive
    (place_in l x) (place_in l y) x.stars y.stars hx.stars hy.stars

-- ---- the spellings in a name

module _ (l : Layout) (a : Parts l) (i : ℤ) where
  stars_below : (s : ℕ) → s ≡ key_cycle l.octave l.generator i → s < cycles_in l
  stars_below s e = subst (λ (n : ℕ). n < cycles_in l) (sym e) (key_cycle_below l.octave l.generator a.positive i)

  -- the cycle that the accidentals hold is the key's
  cycle_is : (accidentals_in l i).cycle ≡ cycle_in l i
  unfolding accidentals_in key_accidentals
  cycle_is = cycle_kept (reduced_in l) l.letters l.start (key_degree l.octave l.generator i) (cycle_in l i)

  -- a spelling with that cycle as stars is the key's, where it has a letter of the chain and sounds the key
  sound : (x : Spelling) → x.stars ≡ stars_of (accidentals_in l i).cycle → x.index < l.letters → key_of l x ≡ remainder i l.octave
      → SoundsKey l i x
  unfolding accidentals_in
  sound x s letter sounds =
      let key-stars = stars_are l.octave l.generator l.letters l.start i a.positive a.start_below in
      record {
        spelling = record { letter = letter; stars = stars_below x.stars (s ∙ key-stars) };
        stars = s ∙ ap stars_of cycle_is;
        sounds = sounds;
      }

  -- both spellings of the key are such
  pub sharp_sound : SoundsKey l i (sharp_spelling (accidentals_in l i))
  unfolding key_of accidentals_in sharp_spelling
  sharp_sound =
      let t = accidentals_sound_their_key l.octave l.generator l.letters l.start i a.positive a.start_below in
      sound (sharp_spelling (accidentals_in l i)) refl t.2.0 t.1.0

  pub flat_sound : SoundsKey l i (flat_spelling (accidentals_in l i))
  unfolding key_of accidentals_in flat_spelling
  flat_sound =
      let t = accidentals_sound_their_key l.octave l.generator l.letters l.start i a.positive a.start_below in
      sound (flat_spelling (accidentals_in l i)) refl t.2.1 t.1.1

  printed_sound : (x : Spelling) → Memᴰ x (printed (sharp_first l) (accidentals_in l i)) → SoundsKey l i x
  printed_sound x m = by ((spellings_in_a_name_are_the_keys (sharp_first l) (accidentals_in l i)).each x m)
    where
      by : (x ≡ sharp_spelling (accidentals_in l i)) ⊎ (x ≡ flat_spelling (accidentals_in l i)) → SoundsKey l i x
      by (inl e) = subst (SoundsKey l i) (sym e) sharp_sound
      by (inr e) = subst (SoundsKey l i) (sym e) flat_sound

  first_sound : SoundsKey l i (first_printed (sharp_first l) (accidentals_in l i))
  first_sound = printed_sound _ (spellings_in_a_name_are_the_keys (sharp_first l) (accidentals_in l i)).some

  pub lettered : Lettered l.chain (accidentals_in l i)
  unfolding accidentals_in
  lettered =
      let t = accidentals_sound_their_key l.octave l.generator l.letters l.start i a.positive a.start_below in
      record { sharp = omega (arith, a.letters_are, t.2.0); flat = omega (arith, a.letters_are, t.2.1) }

-- what has a member is not empty
not_empty : {x : Spelling} (xs : List Spelling) → Memᴰ x xs → 0 < length xs
not_empty [] m = absurd (Memᴰ.not-nil m)
not_empty (y ∷ ys) m = omega arith

pub names_sound_their_key : NamesSoundTheirKey
unfolding printed_in name_in name_text
names_sound_their_key r l e i =
    let a = accepted r l e in
    let x = accidentals_in l i in
    record {
      bytes =
          sym (name_given r l (sym e) i)
          ∙ ap (λ (c : Option ℕ). given (text_in l c (printed (sharp_first l) x))) (cycle_is l a i);
      some = not_empty _ (spellings_in_a_name_are_the_keys (sharp_first l) x).some;
      each = printed_sound l a i;
    }

-- ---- names tell keys apart

-- one place and as many stars: one key
pub same_sound : (l : Layout) (x y : Spelling) → SameSpelling x y → key_of l x ≡ key_of l y
unfolding key_of
same_sound l x y s =
    ap₂ (λ (p : ℤ) (k : ℕ). sounds l.octave l.generator p k) (s.place l.letters l.start) s.stars

same_accidentals : (l : Layout) → Parts l → (x y : ℤ) → Apart l.octave x y → accidentals_in l x ≡ accidentals_in l y
unfolding accidentals_in key_accidentals cycle_of
same_accidentals l a x y apart =
    let h = (degree_and_cycle_tell_keys_apart l.octave l.generator a.positive x y).0 apart in
    ap₂ (λ (d c : ℕ). accidentals_of (reduced_in l) l.letters l.start d (shown (cycles_in l) c)) h.0 h.1

pub names_tell_keys_apart : NamesTellKeysApart
unfolding name_in chain_name
names_tell_keys_apart r l e i j = (there, back)
  where
    a : Parts l
    a = accepted r l e

    there : get_note_name r i ≡ get_note_name r j → Apart l.octave i j
    there q =
        let names = given_same (name_given r l (sym e) i ∙ q ∙ sym (name_given r l (sym e) j)) in
        let same = equal_names_have_one_first_spelling l.chain a.chain (sharp_first l) (accidentals_in l i) (accidentals_in l j)
        (lettered l a i) (lettered l a j) names in
        remainder→apart l.octave a.positive i j
        (sym (first_sound l a i).sounds ∙ same_sound l _ _ same ∙ (first_sound l a j).sounds)

    back : Apart l.octave i j → get_note_name r i ≡ get_note_name r j
    back q =
        sym (name_given r l (sym e) i)
        ∙ ap (λ (x : Accidentals). given (name_text (chain_of l.chain).letters (sharp_first l) x))
        (same_accidentals l a i j q)
        ∙ name_given r l (sym e) j
