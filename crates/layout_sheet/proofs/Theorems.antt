-- The statements of specs/Theorems: one law for a single record, carried along the list.
use Prim.Native.Nat.{ℕ, zero, suc, ◌<◌}
use mathlib.Core.Path.{◌≡◌, refl, sym, ap, subst, ◌∙◌}
use mathlib.Core.List.{List, [], ◌∷◌, map}
use native.Mathlib.Nat.{not-suc-le-zero, le_of_suc-le-suc}
use native.Mathlib.Omega.{arith}
use lib.IntN.{ℤ}
use lib.ListN.{length, get_or, length-map}
use Rattle.answer.specs.Outcome.{Outcome, given, refused, and_then}
use Rattle.answer.proofs.Asked.{given_same}
use Rattle.math.specs.Division.{remainder}
use Rattle.math.proofs.Division.{remainder_below}
use Rattle.pergen.specs.declared.Spelling.{Spelling}
use Rattle.pergen.specs.Spelling.{sharp_spelling, flat_spelling}
use Rattle.layout.specs.declared.IsomorphicLayout.{IsomorphicLayout}
use Rattle.layout.specs.Layouts.{Layout, layout_outcome, Accepted, accidentals_in}
use Rattle.layout.specs.Answers.{get_accidentals, get_sounded_key}
use Rattle.layout.specs.Theorems.{SoundsKey}
use Rattle.layout.proofs.Calls.{of_given}
use Rattle.layout.proofs.Finding.{accepted}
use Rattle.layout.proofs.Naming.{sharp_sound, flat_sound}
use Rattle.layout.proofs.SoundedKeys.{spellings_have_a_key}
use Rattle.layout_layers.proofs.SpreadLaws.{listed_at}
use Rattle.layout_lamps.specs.Lamps.{codes_of, strip_of, lamp_in, strip_length_in, strip_in}
use Rattle.layout_lamps.specs.Answers.{get_strip, get_lamp}
use Rattle.layout_lamps.proofs.StripLaws.{in_the_strip_at}
use Rattle.layout_lamps.proofs.Theorems.{strips_are_whole}
use Rattle.layout_sheet.specs.declared.Record.{Record}
use Rattle.layout_sheet.specs.Sheets.{record_of, key_lamp_in, record_in, sheet_in}
use Rattle.layout_sheet.specs.Answers.{get_sheet}
use Rattle.layout_sheet.specs.Theorems.{
  sharp_of,
  flat_of,
  PlaceByPlace,
  FromSingleCalls,
  SheetsHoldSingleCalls,
  LampsAreTheStrips,
  SoundsItsKey,
  SheetsSoundTheirKeys,
  OnlyTheKeyCounts,
  RefusedByItsLayout,
}
use Rattle.layout_sheet.proofs.Calls.{sheet_refused, sheet_given}

-- ---- from one record to a list of them

module _ (From : Record → Record → Type 0) (f : Record → Record) (one : (x : Record) → From x (f x)) where
  each_place : (xs : List Record) (i : ℕ) (other : Record) → i < length xs → From (get_or xs i other) (get_or (map f xs) i other)
  each_place [] i other l = absurd (not-suc-le-zero l)
  each_place (x ∷ xs) zero other l = one x
  each_place (x ∷ xs) (suc i) other l = each_place xs i other (le_of_suc-le-suc l)

  place_by_place : (xs : List Record) → PlaceByPlace From xs (map f xs)
  place_by_place xs = record { length_kept = length-map xs f; each = each_place xs }

-- a sheet that is given is an accepted layout's
module _ (r : IsomorphicLayout) (before after : List Record) where
  abbrev OfAccepted : Type 0
  OfAccepted = (l : Layout) × Accepted r l × (sheet_in l before ≡ after)

  sheet_is : get_sheet r before ≡ given after → OfAccepted
  unfolding get_sheet
  sheet_is e = by (layout_outcome r) refl e
    where
      by : (o : Outcome Layout) → layout_outcome r ≡ o → and_then o (λ (l : Layout). given (sheet_in l before)) ≡ given after → OfAccepted
      by (given l) a q = (l, a, given_same q)
      by (refused n) a q = absurd (let z : ◌≡◌ {A = ℕ} 0 1 = cc in omega arith)

  -- what holds of each record that a layout fills holds along the sheet
  along : (From : Layout → Record → Record → Type 0) → ((l : Layout) → Accepted r l → (x : Record) → From l x (record_in l x))
      → get_sheet r before ≡ given after
      → (l : Layout) × Accepted r l × PlaceByPlace (From l) before after
  along From one e =
      let (l, a, q) = sheet_is e in
      (l, a, subst (PlaceByPlace (From l) before) q (place_by_place (From l) (record_in l) (one l a) before))

-- ---- one record

module _ (l : Layout) (x : Record) where
  record_is : record_in l x ≡ record_of x.key (accidentals_in l x.key) (key_lamp_in l x.key)
  unfolding record_in
  record_is = refl

  sharp_is : sharp_of (record_in l x) ≡ sharp_spelling (accidentals_in l x.key)
  unfolding record_in sharp_spelling
  sharp_is = refl

  flat_is : flat_of (record_in l x) ≡ flat_spelling (accidentals_in l x.key)
  unfolding record_in flat_spelling
  flat_is = refl

module _ (r : IsomorphicLayout) (l : Layout) (a : Accepted r l) (x : Record) where
  spelled_is : get_accidentals r x.key ≡ given (accidentals_in l x.key)
  unfolding get_accidentals
  spelled_is = sym (of_given r _ l (sym a))

  lamp_is : get_lamp r x.key ≡ given (key_lamp_in l x.key)
  unfolding get_lamp
  lamp_is = sym (of_given r _ l (sym a))

  single_calls : FromSingleCalls r x (record_in l x)
  single_calls =
      record {
        key_kept = ap (λ (y : Record). y.key) (record_is l x);
        spelled = accidentals_in l x.key;
        spellings = spelled_is;
        sharp = sharp_is l x;
        flat = flat_is l x;
        lamp = lamp_is ∙ ap (λ (y : Record). given y.lamp) (sym (record_is l x));
      }

  -- a spelling of the layout that sounds a key is answered with it
  asked_for : (y : Spelling) → SoundsKey l x.key y → get_sounded_key r y ≡ given (remainder x.key l.octave)
  asked_for y s = (spellings_have_a_key r y (remainder x.key l.octave)).1 (l, a, s.spelling, sym s.sounds)

  sounds_its_key : SoundsItsKey r l x (record_in l x)
  sounds_its_key =
      let sharp = subst (SoundsKey l x.key) (sym (sharp_is l x)) (sharp_sound l (accepted r l a) x.key) in
      let flat = subst (SoundsKey l x.key) (sym (flat_is l x)) (flat_sound l (accepted r l a) x.key) in
      record {
        sharp = sharp;
        flat = flat;
        sharp_asked = asked_for (sharp_of (record_in l x)) sharp;
        flat_asked = asked_for (flat_of (record_in l x)) flat;
      }

-- ---- the statements

pub sheets_hold_single_calls : SheetsHoldSingleCalls
sheets_hold_single_calls r before after e = (along r before after (λ l. FromSingleCalls r) (single_calls r) e).2

-- an element of a strip is the code of its entry
strip_at : (l : Layout) (i : ℕ) → i < strip_length_in l → get_or (strip_in l) i 0 ≡ lamp_in l i
unfolding strip_of codes_of
strip_at l i h = listed_at (lamp_in l) (strip_length_in l) i h

pub lamps_are_the_strips : LampsAreTheStrips
unfolding get_strip
lamps_are_the_strips r before after strip e s =
    (along r before after (λ l x y. y.lamp ≡ get_or strip (remainder x.key (length strip)) 0) one e).2
  where
    one : (l : Layout) → Accepted r l → (x : Record) → (record_in l x).lamp ≡ get_or strip (remainder x.key (length strip)) 0
    one l a x =
        let is : strip_in l ≡ strip = given_same (of_given r _ l (sym a) ∙ s) in
        let some : 0 < strip_length_in l = in_the_strip_at r l a 0 (accepted r l a).positive in
        ap (λ (y : Record). y.lamp) (record_is l x)
        ∙ sym (strip_at l (remainder x.key (strip_length_in l)) (remainder_below x.key (strip_length_in l) some))
        ∙ ap (λ (n : ℕ). get_or (strip_in l) (remainder x.key n) 0) (sym (strips_are_whole l))
        ∙ ap (λ (t : List ℕ). get_or t (remainder x.key (length t)) 0) is

pub sheets_sound_their_keys : SheetsSoundTheirKeys
sheets_sound_their_keys r l a before after e =
    subst (PlaceByPlace (SoundsItsKey r l) before) (given_same (sheet_given r l (sym a) before ∙ e))
    (place_by_place (SoundsItsKey r l) (record_in l) (sounds_its_key r l a) before)

pub only_the_key_counts : OnlyTheKeyCounts
only_the_key_counts l x y e =
    record_is l x ∙ ap (λ (k : ℤ). record_of k (accidentals_in l k) (key_lamp_in l k)) e ∙ sym (record_is l y)

layout_refused : (r : IsomorphicLayout) (before : List Record) (n : ℕ) → get_sheet r before ≡ refused n → layout_outcome r ≡ refused n
unfolding get_sheet
layout_refused r before n e = by (layout_outcome r) e
  where
    by : (o : Outcome Layout) → and_then o (λ (l : Layout). given (sheet_in l before)) ≡ refused n → o ≡ refused n
    by (given l) q = absurd (let z : ◌≡◌ {A = ℕ} 0 1 = cc in omega arith)
    by (refused m) q = let s : m ≡ n = cc in ap refused s

pub refused_by_its_layout : RefusedByItsLayout
refused_by_its_layout =
    record {
      refusals = λ r before n. (layout_refused r before n, λ e. sym (sheet_refused r n (sym e) before));
      empty = λ r l a. sym (sheet_given r l (sym a) []);
    }
