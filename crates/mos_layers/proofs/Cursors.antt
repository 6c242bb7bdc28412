-- Layers written at a cursor compose, and leave room for those to come.
use Prim.Native.Nat.{ℕ, zero, suc, ◌+◌, ◌*◌, ◌≤◌, ◌<◌}
use mathlib.Core.Path.{◌≡◌, refl, ap, sym, subst, ◌∙◌}
use mathlib.Core.List.{List, [], ◌∷◌, ◌++◌, append-nil}
use native.Mathlib.Nat.{add-zero, add_assoc, suc-mul, mul-le-mul_right}
use native.Mathlib.Omega.{arith}
use lib.ListN.{length, replicate, length-append, length-replicate}
use Rattle.text.specs.Writing.{Room, Wrote, joined}
use Rattle.text.proofs.Writing.{then, wrote_as, wrote_none, wrote_length}
use Rattle.text.proofs.Joined.{joined_none, joined_more}
use Rattle.mos_layers.specs.declared.Cursor.{Cursor}
use Rattle.mos_layers.specs.Layers.{drop_empty, numbered}
use Rattle.mos_layers.specs.Theorems.{sum}
use Rattle.mos_layers.specs.Parts.{Laid, Space}
use Rattle.mos_layers.proofs.Sizes.{sum_replicate, sum_drop, drop_append, drop_none, few, numbered_append, length_numbered, replicate_more, sum_joined_more, sum_joined_le}

pub laid_as : {xs ys : List ℕ} {c d : Cursor} {before after : List ℕ} → xs ≡ ys → Laid xs c d before after → Laid ys c d before after
laid_as {xs} {ys} {c} {d} {before} {after} e l = subst (λ (zs : List ℕ). Laid zs c d before after) e l

pub laid_none : (c : Cursor) (out : List ℕ) → Laid [] c c out out
laid_none c out = record { wrote = wrote_none out c.at; next = sym (add-zero _) }

pub laid_empty : (times size : ℕ) (c : Cursor) (out : List ℕ) → size ≡ 0 → Laid (replicate times size) c c out out
laid_empty times size c out e =
    record {
      wrote = wrote_as (ap (numbered c.number) (sym (drop_none times size e))) (wrote_none out c.at);
      next = sym (ap (λ (l : List ℕ). c.number + length l) (drop_none times size e) ∙ add-zero _);
    }

pub laid_one : {c : Cursor} {before after : List ℕ} {end : ℕ} (size : ℕ) → (size ≡ 0 → ⊥) → Wrote before c.at (replicate size c.number) after end
    → Laid (size ∷ []) c (record { at = end; number = c.number + 1 }) before after
laid_one {c} zero h w = absurd (h refl)
laid_one {c} (suc size) h w =
    record { wrote = wrote_as (sym (append-nil (replicate (suc size) c.number))) w; next = refl }

pub laid_then : {xs ys : List ℕ} {c d r : Cursor} {o₁ o₂ o₃ : List ℕ} → Laid xs c d o₁ o₂ → Laid ys d r o₂ o₃ → Laid (xs ++ ys) c r o₁ o₃
laid_then {xs} {ys} {c} {d} {r} {o₁} {o₂} {o₃} u v =
    record {
      wrote = wrote_as
          (sym (ap (numbered c.number) (drop_append xs ys) ∙ numbered_append c.number (drop_empty xs) (drop_empty ys)))
          (then u.wrote (wrote_as (ap (λ (j : ℕ). numbered j (drop_empty ys)) u.next) v.wrote));
      next = v.next
          ∙ ap (λ (j : ℕ). j + length (drop_empty ys)) u.next
          ∙ add_assoc c.number (length (drop_empty xs)) (length (drop_empty ys))
          ∙ ap (λ (j : ℕ). c.number + j) (sym (ap length (drop_append xs ys) ∙ length-append (drop_empty xs) (drop_empty ys)));
    }

pub laid_length : {zs : List ℕ} {c d : Cursor} {before after : List ℕ} → Laid zs c d before after → length after ≡ length before
laid_length l = wrote_length l.wrote

-- the cursor has gone on by the sum of the sizes
pub laid_place : {zs : List ℕ} {c d : Cursor} {before after : List ℕ} → Laid zs c d before after → d.at ≡ c.at + sum zs
laid_place {zs} {c} l =
    l.wrote.end ∙ ap (λ (n : ℕ). c.at + n) (length_numbered c.number (drop_empty zs) ∙ sum_drop zs)

-- room for what is still to come
pub space_after : {zs : List ℕ} {c d : Cursor} {before after : List ℕ} (total n : ℕ) → Space total c before → Laid zs c d before after → sum zs + n ≤ total → Space n d after
space_after {zs} total n s l h =
    record {
      fits = omega (arith, s.fits, laid_place l, laid_length l);
      small = omega (arith, s.small, laid_place l);
      low = omega (arith, s.low, laid_place l, l.next, few zs);
    }

pub space_run : {size : ℕ} {c : Cursor} {out : List ℕ} → Space size c out → Room out c.at (replicate size c.number)
space_run {size} {c} s = omega (arith, s.fits, length-replicate size c.number)

-- ---- a run of layers

pub one_more : (i times size : ℕ) → i < times → sum (replicate i size) + size ≤ times * size
one_more i times size h = omega (arith, sum_replicate i size, suc-mul i size, mul-le-mul_right size h)

pub laid_more : (i size : ℕ) {c d r : Cursor} {o₁ o₂ o₃ : List ℕ} → Laid (replicate i size) c d o₁ o₂ → Laid (size ∷ []) d r o₂ o₃
    → Laid (replicate (i + 1) size) c r o₁ o₃
laid_more i size u v = laid_as (sym (replicate_more i size)) (laid_then u v)

-- ---- all runs

module _ (f : ℕ → List ℕ) where
  pub all_start : (c : Cursor) (out : List ℕ) → Laid (joined f 0) c c out out
  all_start c out = laid_as (sym (joined_none f)) (laid_none c out)

  pub all_more : (i : ℕ) {c d r : Cursor} {o₁ o₂ o₃ : List ℕ} → Laid (joined f i) c d o₁ o₂ → Laid (f i) d r o₂ o₃ → Laid (joined f (i + 1)) c r o₁ o₃
  all_more i u v = laid_as (sym (joined_more f i)) (laid_then u v)

  pub all_space : (i n : ℕ) → i < n → (run : ℕ) → sum (f i) ≡ run → {c d : Cursor} {before after : List ℕ} → Space (sum (joined f n)) c before → Laid (joined f i) c d before after
      → Space run d after
  all_space i n h run e s l =
      space_after (sum (joined f n)) run s l (omega (arith, sum_joined_more f i, sum_joined_le f (i + 1) n (omega arith)))
