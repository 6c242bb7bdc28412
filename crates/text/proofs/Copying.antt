-- Laws of copying: after i turns of a loop that copies a text element by element, its first i elements are written; what a slice
-- holds when a text was copied over a part of it; and an element of a list whose elements are changed one by one.
use mathlib.Core.Path.{◌≡◌, refl, sym, ap, ◌∙◌, subst}
use Prim.Native.Nat.{ℕ, zero, suc, ◌+◌, ◌-◌, ◌≤◌, ◌<◌}
use native.Mathlib.Nat.{le_of_suc-le-suc, not-suc-le-zero}
use native.Mathlib.Numerals.{add-one}
use native.Mathlib.Omega.{arith}
use mathlib.Core.List.{List, [], ◌∷◌, ◌++◌, map, append_assoc}
use lib.ListN.{length, get_or, take, drop, set, replicate, length-replicate, length-take, length-drop}
use lib.Seq.{take-suc, take_all, sets-eq}
use borrow.Rule.Slice.PartMut.{put_mid, Post-is}
use Rattle.text.specs.Writing.{Room, Wrote}
use Rattle.text.proofs.Writing.{wrote_none, wrote_one, then, wrote_as}

pub copy_start : (xs text : List ℕ) (at : ℕ) → Wrote xs at (take 0 text) xs at
copy_start xs text at = wrote_none xs at

pub copy_more : {xs ys : List ℕ} {at o : ℕ} (text : List ℕ) (i : ℕ) → i < length text → Wrote xs at (take i text) ys o
    → Wrote xs at (take (i + 1) text) (set ys o (get_or text i 0)) (o + 1)
copy_more {xs} {ys} {at} {o} text i h w =
    wrote_as (sym (ap (λ (k : ℕ). take k text) (add-one i) ∙ take-suc text i 0 h)) (then w (wrote_one ys o (get_or text i 0)))

-- all of it
pub copied : {xs ys : List ℕ} {at o : ℕ} (text : List ℕ) (i : ℕ) → length text ≤ i → Wrote xs at (take i text) ys o → Wrote xs at text ys o
copied text i h w = wrote_as (take_all i text h) w

-- a text copied over the part of a slice that is as long as it
pub part_copied : (xs text ys : List ℕ) (at : ℕ) → Room xs at text → ys ≡ text
    → Wrote xs at text (put_mid at (at + length text - at) xs ys) (at + length text)
part_copied xs text ys at room same =
    let n = length text in
    record {
      content =
          ap (put_mid at (at + n - at) xs) same
          ∙ ap (λ (l : List ℕ). take at xs ++ (text ++ l)) (Post-is at (at + n) xs (omega arith))
          ∙ sym (append_assoc (take at xs) text (drop (at + n) xs))
          ∙ sym (sets-eq text xs at room);
      end = refl;
    }

-- the changed element is the element changed
pub mapped_at : {A B : Type 0} (f : A → B) (l : List A) (k : ℕ) (d : B) (e : A) → k < length l → get_or (map f l) k d ≡ f (get_or l k e)
mapped_at f [] k d e h = absurd (not-suc-le-zero h)
mapped_at f (x ∷ l) zero d e h = refl
mapped_at f (x ∷ l) (suc k) d e h = mapped_at f l k d e (le_of_suc-le-suc h)
