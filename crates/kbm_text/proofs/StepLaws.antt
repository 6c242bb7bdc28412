-- One line more: what each kind of line does to the counts.
use Prim.Native.Nat.{ℕ, ◌+◌, ◌-◌, ◌≤◌}
use native.Mathlib.Omega.{arith}
use mathlib.Core.Bool.{Bool, true, false, ◌&&◌, true≢false}
use mathlib.Core.Path.{◌≡◌, refl, sym, ap, ◌∙◌}
use mathlib.Core.List.{List, [], ◌∷◌}
use lib.ListN.{length, set, get_or-eq_default}
use lib.Dec.{leb}
use borrow.Author.Tests.{leb-true}
use Rattle.text.proofs.Writing.{wrote_none, wrote_one, wrote_as}
use Rattle.answer.specs.Choice.{pick}
use Rattle.kbm_text.specs.Kinds.{is_comment_kind}
use Rattle.kbm_text.specs.Reading.{due, fits_at, agrees_at, key_at}
use Rattle.kbm_text.specs.Parts.{key_count, with_line, unless, next_scan, line_after, PutKey}
use Rattle.kbm_text.specs.declared.kinds.Kind.{Kind}
use Rattle.kbm_text.specs.declared.kinds.Kind.TheVariants.{Number, Frequency, Mark, Comment, Other}
use Rattle.kbm_text.specs.declared.scan.Scan.{Scan}
use Rattle.kbm_text.specs.declared.scan.Spot.{Spot}

-- ---- the key of one line

-- a line has no key, or the key of its place
key_by : (k : ℕ) (test : Bool) → leb 7 k ≡ test → (length (pick test ((k - 7) ∷ []) []) ≡ 0 → ⊥) → (7 ≤ k) × (pick test ((k - 7) ∷ []) [] ≡ (k - 7) ∷ [])
key_by k true e h = (leb-true 7 k e, refl)
key_by k false e h = absurd (h refl)

pub a_key : (k : ℕ) (kind : Kind) → (key_count k kind ≡ 0 → ⊥) → (7 ≤ k) × (key_at k kind ≡ (k - 7) ∷ [])
a_key k (Number n) h = key_by k (leb 7 k) refl h
a_key k Frequency h = absurd (h refl)
a_key k Mark h = absurd (h refl)
a_key k Comment h = absurd (h refl)
a_key k Other h = absurd (h refl)

pub key_line_lem : (k : ℕ) (kind : Kind) → (key_count k kind ≡ 0 → ⊥) → 7 ≤ k
key_line_lem k kind h = (a_key k kind h).0

none_of : (l : List ℕ) → length l ≡ 0 → [] ≡ l
none_of [] e = refl
none_of (a ∷ l) e = absurd (omega arith)

-- ---- writing the key of one line

line_moves : (k : ℕ) (kind : Kind) → is_comment_kind kind ≡ false → k + 1 ≡ line_after k kind
line_moves k (Number n) e = refl
line_moves k Frequency e = refl
line_moves k Mark e = refl
line_moves k Comment e = absurd (true≢false e)
line_moves k Other e = refl

line_stays : (k : ℕ) (kind : Kind) → is_comment_kind kind ≡ true → k ≡ line_after k kind
line_stays k (Number n) e = absurd (true≢false (sym e))
line_stays k Frequency e = absurd (true≢false (sym e))
line_stays k Mark e = absurd (true≢false (sym e))
line_stays k Comment e = refl
line_stays k Other e = absurd (true≢false (sym e))

comment_none : (k : ℕ) (kind : Kind) → is_comment_kind kind ≡ true → [] ≡ key_at k kind
comment_none k (Number n) e = absurd (true≢false (sym e))
comment_none k Frequency e = refl
comment_none k Mark e = refl
comment_none k Comment e = refl
comment_none k Other e = refl

module _ (out : List ℕ) (spot : Spot) (kind : Kind) where
  pub put_comment : is_comment_kind kind ≡ true → PutKey out spot kind out spot
  put_comment e =
      record { wrote = wrote_as (comment_none spot.line kind e) (wrote_none out spot.put); line_is = line_stays spot.line kind e }

  pub put_none : is_comment_kind kind ≡ false → key_count spot.line kind ≡ 0 → PutKey out spot kind out (record { line = spot.line + 1; put = spot.put })
  put_none e n =
      record {
        wrote = wrote_as (none_of (key_at spot.line kind) n) (wrote_none out spot.put);
        line_is = line_moves spot.line kind e;
      }

  pub put_one : is_comment_kind kind ≡ false → (key_count spot.line kind ≡ 0 → ⊥)
      → PutKey out spot kind (set out spot.put (spot.line - 7)) (record { line = spot.line + 1; put = spot.put + 1 })
  put_one e n =
      record {
        wrote = wrote_as (sym (a_key spot.line kind n).1) (wrote_one out spot.put (spot.line - 7));
        line_is = line_moves spot.line kind e;
      }

-- ---- the counts after one line

module _ (octave : ℕ) (s : Scan) (kind : Kind) where
  pub next_comment : is_comment_kind kind ≡ true → s ≡ next_scan octave s kind
  unfolding next_scan
  next_comment e = sym (ap (λ (t : Bool). unless t s (with_line octave s kind)) e)

  next_other : is_comment_kind kind ≡ false → with_line octave s kind ≡ next_scan octave s kind
  unfolding next_scan
  next_other e = sym (ap (λ (t : Bool). unless t s (with_line octave s kind)) e)

  pub next_with_line : is_comment_kind kind ≡ false → (fits agrees : Bool) (keys : ℕ) → fits ≡ (s.fits && fits_at s.line kind)
      → agrees ≡ (s.agrees && agrees_at octave s.line kind) → keys ≡ key_count s.line kind
      → record { line = s.line + 1; fits = fits; agrees = agrees; keys = s.keys + keys } ≡ next_scan octave s kind
  next_with_line e fits agrees keys p q k =
      ap (λ (x : Bool). record { line = s.line + 1; fits = x; agrees = agrees; keys = s.keys + keys }) p
      ∙ ap (λ (x : Bool). record { line = s.line + 1; fits = s.fits && fits_at s.line kind; agrees = x; keys = s.keys + keys }) q
      ∙ ap (λ (x : ℕ). record { line = s.line + 1; fits = s.fits && fits_at s.line kind; agrees = s.agrees && agrees_at octave s.line kind; keys = s.keys + x }) k
      ∙ next_other e

-- ---- the number that is due

pub due_entry : (octave k : ℕ) → 7 ≤ k → due octave k ≡ k - 7
unfolding due
due_entry octave k h = get_or-eq_default (octave ∷ 0 ∷ 127 ∷ 60 ∷ 69 ∷ 0 ∷ octave ∷ []) (k - 7) h
