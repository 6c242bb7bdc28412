-- Laws of writing: stores in a row are one run of stores, so `Wrote` composes without side conditions.
use mathlib.Core.Path.{◌≡◌, refl, sym, ap, ◌∙◌, subst}
use Prim.Native.Nat.{ℕ, suc, ◌+◌, ◌≤◌}
use native.Mathlib.Nat.{add-zero, zero-add, add-suc, suc-add, add_assoc}
use native.Mathlib.Omega.{arith}
use mathlib.Core.List.{List, [], ◌∷◌, ◌++◌}
use lib.ListN.{length, set, take, drop, replicate, length-append, replicate-append-replicate}
use lib.Seq.{sets, sets-eq, length-sets, take-append_seam}
use Rattle.answer.specs.Outcome.{Outcome, given}
use Rattle.answer.specs.Lent.{in_room, counted, written, Filled}
use Rattle.answer.proofs.Lent.{held}
use Rattle.text.specs.Writing.{Room, Wrote}

module _ {A : Type 0} where
  pub sets_append : (t u l : List A) (i : ℕ) → sets (sets l i t) (i + length t) u ≡ sets l i (t ++ u)
  sets_append [] u l i = ap (λ (k : ℕ). sets l k u) (add-zero i)
  sets_append (a ∷ t) u l i =
      ap (λ (k : ℕ). sets (sets (set l i a) (suc i) t) k u) (add-suc i (length t) ∙ sym (suc-add i (length t)))
      ∙ sets_append t u (set l i a) (suc i)

  pub wrote_none : (xs : List A) (at : ℕ) → Wrote xs at [] xs at
  wrote_none xs at = record { content = refl; end = sym (add-zero at) }

  pub wrote_one : (xs : List A) (at : ℕ) (b : A) → Wrote xs at (b ∷ []) (set xs at b) (at + 1)
  wrote_one xs at b = record { content = refl; end = refl }

  -- one text after another
  pub then : {xs ys zs t u : List A} {at mid next : ℕ} → Wrote xs at t ys mid → Wrote ys mid u zs next → Wrote xs at (t ++ u) zs next
  then {xs} {ys} {zs} {t} {u} {at} {mid} {next} v w =
      record {
        content =
            w.content
            ∙ ap (λ (l : List A). sets l mid u) v.content
            ∙ ap (λ (k : ℕ). sets (sets xs at t) k u) v.end
            ∙ sets_append t u xs at;
        end =
            w.end
            ∙ ap (λ (k : ℕ). k + length u) v.end
            ∙ add_assoc at (length t) (length u)
            ∙ ap (λ (k : ℕ). at + k) (sym (length-append t u));
      }

  -- the same text, said otherwise
  pub wrote_as : {xs ys t u : List A} {at next : ℕ} → t ≡ u → Wrote xs at t ys next → Wrote xs at u ys next
  wrote_as {xs} {ys} {t} {u} {at} {next} e w = subst (λ (l : List A). Wrote xs at l ys next) e w

  -- a run, one element longer
  pub run_more : {xs ys : List A} {at o : ℕ} (j : ℕ) (b : A) → Wrote xs at (replicate j b) ys o → Wrote xs at (replicate (j + 1) b) (set ys o b) (o + 1)
  run_more {xs} {ys} {at} {o} j b w = wrote_as (replicate-append-replicate j 1 b) (then w (wrote_one ys o b))

  pub wrote_length : {xs text ys : List A} {at next : ℕ} → Wrote xs at text ys next → length ys ≡ length xs
  wrote_length {xs} {text} {ys} {at} w = ap length w.content ∙ length-sets xs at text

  -- what is written from place 0 stands at the front, and the rest is kept
  pub wrote_front : {xs text ys : List A} {next : ℕ} → length text ≤ length xs → Wrote xs 0 text ys next → ys ≡ text ++ drop (length text) xs
  wrote_front {xs} {text} room w =
      w.content
      ∙ sets-eq text xs 0 (subst (λ (k : ℕ). k ≤ length xs) (sym (zero-add (length text))) room)
      ∙ ap (λ (k : ℕ). text ++ drop k xs) (zero-add (length text))

  -- an entry point's output, which has room, written from place 0 on
  pub filled_given : {o : Outcome (List A)} {a : Outcome ℕ} {xs ys output : List A} {next : ℕ} → o ≡ given output → a ≡ given (length output)
      → length output ≤ length xs → Wrote xs 0 output ys next → Filled o a xs ys
  filled_given {o} {a} {xs} {ys} e f room w =
      record { answered = f ∙ sym (ap counted e); content = wrote_front room w ∙ sym (ap (λ (p : Outcome (List A)). written p xs) e) }

  -- the same where question 10 comes after the call's own, and the place after the output is what is counted
  pub filled_whole : {o : Outcome (List A)} {xs ys output : List A} {next : ℕ} → o ≡ given output → length output ≤ length xs
      → Wrote xs 0 output ys next → Filled (in_room (length xs) o) (given next) xs ys
  filled_whole {xs = xs} {output = output} e room w =
      filled_given (ap (in_room (length xs)) e ∙ held (length xs) output room) (ap given (w.end ∙ zero-add _)) room w

  -- room for two texts is room for the first, and then for the second
  pub room_first : (xs : List A) (at : ℕ) (t u : List A) → Room xs at (t ++ u) → Room xs at t
  room_first xs at t u h = omega (arith, length-append t u)

  pub room_next : {xs t ys : List A} {at mid : ℕ} (u : List A) → Wrote xs at t ys mid → Room xs at (t ++ u) → Room ys mid u
  room_next {xs} {t} {ys} {at} {mid} u w h = omega (arith, length-append t u, wrote_length w)

  -- the text that was put at the front is the part up to the place after it
  pub put_there : {xs ys text : List A} {n : ℕ} → length text ≤ length xs → Wrote xs 0 text ys n → (n ≤ length ys) × (take n ys ≡ text)
  put_there {xs} {ys} {text} {n} room w =
      let is : n ≡ length text = w.end ∙ zero-add (length text) in (
        omega (arith, is, room, wrote_length w),
        ap (λ (k : ℕ). take k ys) is
            ∙ ap (take (length text)) (wrote_front room w)
            ∙ take-append_seam text (drop (length text) xs),
      )
