-- Equal names have one first spelling: the reader finds it in the bytes, and a chain has each letter once.
use Prim.Native.Nat.{ℕ, ◌<◌}
use native.Mathlib.Nat.{mul-zero}
use mathlib.Core.Path.{◌≡◌, sym, ap, ◌∙◌}
use mathlib.Core.Bool.{Bool}
use mathlib.Core.Logic.{inl, inr}
use lib.IntN.{pos, neg_ℤ, ◌*ℤ◌}
use lib.ListN.{length}
use Rattle.genchain.specs.Chains.{chain_of}
use Rattle.pergen.specs.Spelling.{shift, place, sharp_spelling, flat_spelling}
use Rattle.pergen.specs.declared.Accidentals.{Accidentals}
use Rattle.pergen.specs.declared.Signs.{Signs}
use Rattle.pergen.specs.declared.Signs.TheVariants.{Sharps, Flats}
use Rattle.pergen.specs.declared.Spelling.{Spelling}
use Rattle.notes.specs.Names.{first_printed}
use Rattle.notes.specs.Reading.{Reading, read_name, sharps_in, flats_in, reading_of}
use Rattle.notes.specs.Theorems.{Lettered, SameSpelling, EqualNamesHaveOneFirstSpelling}
use Rattle.notes.proofs.RowLetters.{chain_place_lem}
use Rattle.notes.proofs.Printing.{Of, first_of}
use Rattle.notes.proofs.Reader.{reading_gives_the_first_spelling}

-- no flats shift by as much as no sharps
none : (N : ℕ) → neg_ℤ (pos N *ℤ pos 0) ≡ pos N *ℤ pos 0
none N = let e : pos N *ℤ pos 0 ≡ pos 0 = ap pos (mul-zero N) in ap neg_ℤ e ∙ sym e

same_shift : (N : ℕ) (s t : Signs) → sharps_in s ≡ sharps_in t → flats_in s ≡ flats_in t → shift N s ≡ shift N t
same_shift N (Sharps k) (Sharps m) e f = ap (λ (n : ℕ). pos N *ℤ pos n) e
same_shift N (Flats k) (Flats m) e f = ap (λ (n : ℕ). neg_ℤ (pos N *ℤ pos n)) f
same_shift N (Sharps k) (Flats m) e f = rw (e, ← f) (sym (none N))
same_shift N (Flats k) (Sharps m) e f = rw (f, ← e) (none N)

same_place : (N origin : ℕ) (s t : Spelling) → s.index ≡ t.index → shift N s.signs ≡ shift N t.signs → place N origin s ≡ place N origin t
unfolding place
same_place N origin s t e f = rw (e, f)

pub same_spelling : (s t : Spelling) → s.index ≡ t.index → sharps_in s.signs ≡ sharps_in t.signs
    → flats_in s.signs ≡ flats_in t.signs → s.stars ≡ t.stars → SameSpelling s t
same_spelling s t index sharps flats stars =
    record {
      index = index;
      sharps = sharps;
      flats = flats;
      stars = stars;
      place = λ N origin. same_place N origin s t index (same_shift N s.signs t.signs sharps flats);
    }

-- the first spelling's letter is one of the chain's
first_below : (code : ℕ) (sf : Bool) (a : Accidentals) → Lettered code a → (first_printed sf a).index < length (chain_of code).letters
unfolding sharp_spelling flat_spelling
first_below code sf a l = by (first_printed sf a) (first_of sf a)
  where
    by : (s : Spelling) → Of a s → s.index < length (chain_of code).letters
    by s (inl e) = rw e l.sharp
    by s (inr e) = rw e l.flat

pub equal_names_have_one_first_spelling : EqualNamesHaveOneFirstSpelling
unfolding reading_of
equal_names_have_one_first_spelling code h sf a b la lb e =
    let s = first_printed sf a in
    let t = first_printed sf b in
    let r : reading_of (chain_of code).letters s ≡ reading_of (chain_of code).letters t
    = sym (reading_gives_the_first_spelling code h sf a la) ∙ ap (read_name sf) e ∙ reading_gives_the_first_spelling code h sf b lb in
    let index : s.index ≡ t.index
    = chain_place_lem code h s.index t.index (first_below code sf a la) (first_below code sf b lb) (ap (λ (x : Reading). x.letter) r) in
    same_spelling s t index (ap (λ (x : Reading). x.sharps) r) (ap (λ (x : Reading). x.flats) r) (ap (λ (x : Reading). x.stars) r)
