-- From the library's answers to C's: one law for each way in which a call ends. A signed result comes as `to_z w64 (of_z w64 z)`.
use Rattle.answer.specs.declared.Refusal.{Refusal}
use Rattle.std.specs.Prelude.{Result}
use Rattle.answer.specs.Refusals.{outcome_of}
use Prim.Native.Nat.{ℕ, ◌≤◌, ◌<◌, ◌^◌}
use mathlib.Core.Path.{◌≡◌, refl, sym, ap, ◌∙◌, subst}
use mathlib.Core.List.{List, [], ◌∷◌}
use native.Mathlib.Omega.{arith}
use lib.IntN.{ℤ, pos, neg_ℤ, ◌-ℤ◌}
use lib.ListN.{length, drop, set, length-append}
use lib.Signed.{mag}
use borrow.Author.Tests.{le-leb, lt-leb}
use mir.Syntax.{w64}
use mir.Val.{SFits, to_z, of_z}
use mir.ValLaws.{to_z_pos}
use Rattle.answer.specs.Outcome.{Outcome, given, refused, and_then}
use Rattle.answer.specs.Lent.{in_room, counted, written, Filled}
use Rattle.text.specs.Writing.{Wrote}
use Rattle.answer.proofs.Lent.{held, not_held}
use Rattle.text.proofs.Writing.{wrote_front}
use Rattle.math.proofs.Integers.{rep_pos, rep_neg, rep_minus, rep_agree, abs_rep}
use Rattle.math.proofs.Signed.{read_back_lem, abs_fits}
use Rattle.vetchnoon_codes.specs.Codes.{code_of, Fills, one_held, one_counted, one_written, FillsOne, SmallCount}

-- ---- the numbers themselves

-- minus a number
module _ (n : ℕ) (h : n < 2 ^ 63) where
  minus : pos 0 -ℤ to_z w64 n ≡ neg_ℤ (pos n)
  minus =
      ap (λ (z : ℤ). pos 0 -ℤ z) (to_z_pos w64 n (omega arith))
      ∙ rep_agree (rep_minus (rep_pos 0) (rep_pos n)) (rep_neg (rep_pos n)) (omega arith)

  pub minus_fits : SFits w64 (pos 0 -ℤ to_z w64 n)
  minus_fits =
      subst (λ (z : ℤ). SFits w64 z) (sym minus) (abs_fits w64 (neg_ℤ (pos n)) (omega (arith, abs_rep (rep_neg (rep_pos n)))))

  pub minus_is : to_z w64 (of_z w64 (pos 0 -ℤ to_z w64 n)) ≡ neg_ℤ (pos n)
  minus_is = read_back_lem w64 _ minus_fits ∙ minus

-- a callee's code is handed on
pub coded : {r z : ℤ} → mag r < 2 ^ 63 → r ≡ z → to_z w64 (of_z w64 r) ≡ z
coded {r} h e = read_back_lem w64 r (record { sfits = h }) ∙ e

-- ---- calls that fill a slice

in_room_lem : {A : Type 0} {o p whole : Outcome (List A)} (room : ℕ) → p ≡ o → in_room room p ≡ whole → in_room room o ≡ whole
in_room_lem room e w = sym (ap (in_room room) e) ∙ w

module _ {A : Type 0} {o : Outcome (List A)} {z : ℤ} (xs : List A) where
  -- by the whole outcome, question 10 included
  fills_by : (whole : Outcome (List A)) (ys : List A) → in_room (length xs) o ≡ whole → z ≡ code_of (counted whole) → ys ≡ written whole xs
      → Fills o z xs ys
  fills_by whole ys e f g =
      record {
        answered = f ∙ sym (ap (λ (p : Outcome (List A)). code_of (counted p)) e);
        content = g ∙ sym (ap (λ (p : Outcome (List A)). written p xs) e);
      }

  -- a refusal of the call's own, with the slice untouched
  pub fills_refused : (n : ℕ) → refused n ≡ o → z ≡ neg_ℤ (pos n) → Fills o z xs xs
  fills_refused n e f = fills_by (refused n) xs (in_room_lem _ e refl) f refl

  -- question 10, with the slice untouched
  pub fills_short : (output : List A) → given output ≡ o → length xs < length output → z ≡ neg_ℤ (pos 10) → Fills o z xs xs
  fills_short output e h f = fills_by (refused 10) xs (in_room_lem _ e (not_held (length xs) output h)) f refl

  -- an output that has room, written from place 0 on
  pub fills_given : {ys : List A} {next : ℕ} (output : List A) → given output ≡ o → z ≡ pos (length output) → length output ≤ length xs
      → Wrote xs 0 output ys next → Fills o z xs ys
  fills_given {ys} output e f room w =
      fills_by (given output) ys (in_room_lem _ e (held (length xs) output room)) f (wrote_front room w)

  -- nothing to write
  pub fills_nothing : given [] ≡ o → z ≡ pos 0 → Fills o z xs xs
  fills_nothing e f = fills_by (given []) xs (in_room_lem _ e (held (length xs) [] (omega arith))) f refl

-- the library filled it
pub fills_filled : {A : Type 0} {o whole : Outcome (List A)} {a : Outcome ℕ} {z : ℤ} {xs ys : List A} → in_room (length xs) o ≡ whole
    → Filled whole a xs ys → z ≡ code_of a → Fills o z xs ys
fills_filled {whole = whole} {xs = xs} {ys = ys} e w f = fills_by xs whole ys e (f ∙ ap code_of w.answered) w.content

-- a part filled it, and its outcome is said otherwise
pub fills_as : {A : Type 0} {o p : Outcome (List A)} {z : ℤ} {xs ys : List A} → o ≡ p → mag z < 2 ^ 63 → Fills o z xs ys
    → Fills p (to_z w64 (of_z w64 z)) xs ys
fills_as {A} {o} {z = z} {xs = xs} {ys = ys} e h f =
    subst (λ (q : Outcome (List A)). Fills q (to_z w64 (of_z w64 z)) xs ys) e
    (subst (λ (y : ℤ). Fills o y xs ys) (sym (read_back_lem w64 z (record { sfits = h }))) f)

-- ---- a call that writes one signed number

first_set : (xs : List ℤ) (w : ℤ) → 1 ≤ length xs → set xs 0 w ≡ w ∷ drop 1 xs
first_set [] w h = absurd (let n : ⊥ = omega arith in n)
first_set (x ∷ xs) w h = refl

one_in_room : {o p whole : Outcome ℤ} (room : ℕ) → p ≡ o → and_then p (one_held room) ≡ whole → and_then o (one_held room) ≡ whole
one_in_room room e w = sym (ap (λ (x : Outcome ℤ). and_then x (one_held room)) e) ∙ w

module _ {o : Outcome ℤ} {z : ℤ} (xs : List ℤ) where
  one_by : (whole : Outcome ℤ) (ys : List ℤ) → and_then o (one_held (length xs)) ≡ whole → z ≡ code_of (one_counted whole) → ys ≡ one_written whole xs
      → FillsOne o z xs ys
  one_by whole ys e f g =
      record {
        answered = f ∙ sym (ap (λ (p : Outcome ℤ). code_of (one_counted p)) e);
        content = g ∙ sym (ap (λ (p : Outcome ℤ). one_written p xs) e);
      }

  pub one_refused : (n : ℕ) → refused n ≡ o → z ≡ neg_ℤ (pos n) → FillsOne o z xs xs
  one_refused n e f = one_by (refused n) xs (one_in_room (length xs) e refl) f refl

  pub one_short : (y : ℤ) → given y ≡ o → length xs < 1 → z ≡ neg_ℤ (pos 10) → FillsOne o z xs xs
  one_short y e h f = one_by (refused 10) xs (one_in_room (length xs) e (simp (lt-leb 1 (length xs) h))) f refl

  pub one_given : (y w : ℤ) → given y ≡ o → 1 ≤ length xs → z ≡ pos 1 → w ≡ y → FillsOne o z xs (set xs 0 w)
  one_given y w e h f is =
      one_by (given y) (set xs 0 w) (one_in_room (length xs) e (simp (le-leb 1 (length xs) h))) f (first_set xs w h ∙ ap (λ (x : ℤ). x ∷ drop 1 xs) is)

-- ---- counts fit

-- what was written fits the slice, and a slice's length fits
pub small_filled : {A : Type 0} {o : Outcome (List A)} {xs ys : List A} (a : Result ℕ Refusal) → Filled o (outcome_of a) xs ys
    → length ys < 2 ^ 63 → SmallCount a
small_filled {A} {o} {xs} {ys} a f h n is = by o (sym (ap outcome_of is) ∙ f.answered) f.content
  where
    by : (p : Outcome (List A)) → given n ≡ counted p → ys ≡ written p xs → n < 2 ^ 63
    by (given text) e w =
        let same : n ≡ length text = cc in omega (arith, same, ap length w, length-append text (drop (length text) xs))
    by (refused k) e w = cc

pub small_counted : {A : Type 0} (o : Outcome (List A)) (a : Result ℕ Refusal) → outcome_of a ≡ counted o
    → ((text : List A) → o ≡ given text → length text < 2 ^ 63) → SmallCount a
small_counted {A} o a e h n is = by o (sym (ap outcome_of is) ∙ e) h
  where
    by : (p : Outcome (List A)) → given n ≡ counted p → ((text : List A) → p ≡ given text → length text < 2 ^ 63) → n < 2 ^ 63
    by (given text) e h =
        let same : n ≡ length text = cc in subst (λ (k : ℕ). k < 2 ^ 63) (sym same) (h text refl)
    by (refused k) e h = cc
