-- Comparing bytes, and reading a number's digits, one turn at a time.
use Prim.Native.Nat.{ℕ, zero, suc, ◌+◌, ◌-◌, ◌*◌, ◌^◌, ◌<◌, ◌≤◌}
use native.Mathlib.Numerals.{add-one}
use native.Mathlib.Nat.{pow-le-pow_right, pow-succ'}
use native.Mathlib.Omega.{arith}
use mathlib.Core.Bool.{Bool, true, false, ◌&&◌, and-false, true≢false}
use mathlib.Core.Path.{◌≡◌, refl, sym, ap, ◌∙◌}
use mathlib.Core.List.{List, [], ◌∷◌}
use lib.ListN.{length, get_or, drop, drop_of_length-le}
use lib.Seq.{drop-cons}
use lib.Dec.{eqb}
use Rattle.std.specs.Prelude.{nat_eq}
use Rattle.std.specs.Cmp.Lexicographic.{pointwise}
use borrow.Author.Tests.{le-leb, lt-leb}
use Rattle.text.specs.Decimal.{is_digit, value, value_from}
use Rattle.kbm_text.specs.Kinds.{same_bytes, all_digits, says_number}
use Rattle.kbm_text.specs.Parts.{NumberRead}
use Rattle.std.specs.Prelude.{Some, None}

cut : (s : List ℕ) (i : ℕ) → i < length s → drop i s ≡ get_or s i 0 ∷ drop (i + 1) s
cut s i h = drop-cons s i 0 h ∙ ap (λ (n : ℕ). get_or s i 0 ∷ drop n s) (sym (add-one i))

pub in_list : (l : List ℕ) (i d e : ℕ) → i < length l → get_or l i d ≡ get_or l i e
in_list [] i d e h = absurd (omega arith)
in_list (a ∷ l) zero d e h = refl
in_list (a ∷ l) (suc i) d e h = in_list l i d e (omega arith)

pub other_length : (a b : List ℕ) → (length a ≡ length b → ⊥) → same_bytes a b ≡ false
unfolding same_bytes
other_length [] [] h = absurd (h refl)
other_length [] (b ∷ t) h = refl
other_length (a ∷ s) [] h = refl
other_length (a ∷ s) (b ∷ t) h = simp (other_length s t (λ e. h (ap suc e)), and-false)

-- `==` of two slices of bytes
compared : (a b : List ℕ) → pointwise nat_eq a b ≡ same_bytes a b
unfolding same_bytes
compared [] [] = refl
compared [] (b ∷ t) = refl
compared (a ∷ s) [] = refl
compared (a ∷ s) (b ∷ t) = ap (λ (r : Bool). eqb a b && r) (compared s t)

-- `==` of two slices of bytes, the second of them known
pub compared_with : (line known : List ℕ) {bytes : List ℕ} {r test : Bool} → r ≡ pointwise nat_eq line bytes → bytes ≡ known → r ≡ test
    → same_bytes line known ≡ test
compared_with line known e is t = sym (compared line known) ∙ ap (pointwise nat_eq line) (sym is) ∙ sym e ∙ t

-- ---- a number

pub record Read (line : List ℕ) (sofar i : ℕ) : Type 0 where
  pub same_digits : all_digits line ≡ all_digits (drop i line)
  pub same_value : value line ≡ value_from sofar (drop i line)
  pub small : sofar < 10 ^ i

pub read_none : (line : List ℕ) → Read line 0 0
read_none line = record { same_digits = refl; same_value = refl; small = omega arith }

is_none : (line : List ℕ) → says_number line ≡ false → NumberRead line None
is_none line e = record { yes = λ f. absurd (true≢false (sym f ∙ e)); no = λ f. refl }

module _ (line : List ℕ) where
  pub none_short : length line < 1 → NumberRead line None
  unfolding says_number
  none_short h = is_none line (simp (lt-leb 1 (length line) h))

  pub none_long : 5 < length line → NumberRead line None
  unfolding says_number
  none_long h = is_none line (simp (lt-leb (length line) 5 h, and-false))

  none_other : all_digits line ≡ false → NumberRead line None
  unfolding says_number
  none_other e = is_none line (simp (e, and-false))

  module _ (sofar i : ℕ) (r : Read line sofar i) where
    pub small_enough : i ≤ 4 → sofar < 10000
    small_enough h = omega (arith, r.small, pow-le-pow_right {n = 10} (omega arith) {i = i} {j = 4} h)

    pub read_all : 1 ≤ length line → length line ≤ 5 → length line ≤ i → i ≤ length line → NumberRead line (Some sofar)
    unfolding says_number all_digits value_from
    read_all h k l m =
        let rest : drop i line ≡ [] = drop_of_length-le line l in
        let yes : all_digits line ≡ true = r.same_digits ∙ ap all_digits rest in
        let is : value line ≡ sofar = r.same_value ∙ ap (value_from sofar) rest in
        record {
          yes = λ e. ap Some (sym is);
          no = λ e. absurd (true≢false (sym (simp (le-leb 1 (length line) h, le-leb (length line) 5 k, yes)) ∙ e));
        }

    module _ (h : i < length line) where
      digits_split : all_digits (drop i line) ≡ (is_digit (get_or line i 0) && all_digits (drop (i + 1) line))
      unfolding all_digits
      digits_split = ap all_digits (cut line i h)

      pub low_byte : get_or line i 0 < 48 → NumberRead line None
      low_byte l = none_other (r.same_digits ∙ digits_split ∙ simp (lt-leb 48 (get_or line i 0) l))

      pub high_byte : 57 < get_or line i 0 → NumberRead line None
      high_byte l = none_other (r.same_digits ∙ digits_split ∙ simp (lt-leb (get_or line i 0) 57 l, and-false))

      value_split : value_from sofar (drop i line) ≡ value_from (10 * sofar + (get_or line i 0 - 48)) (drop (i + 1) line)
      unfolding value_from
      value_split = ap (value_from sofar) (cut line i h)

      pub read_more : 48 ≤ get_or line i 0 → get_or line i 0 ≤ 57 → (d : ℕ) → d ≡ get_or line i 0 - 48 → Read line (10 * sofar + d) (i + 1)
      read_more low high d e =
          record {
            same_digits = r.same_digits ∙ digits_split ∙ simp (le-leb 48 (get_or line i 0) low, le-leb (get_or line i 0) 57 high);
            same_value = r.same_value ∙ value_split ∙ ap (λ (n : ℕ). value_from (10 * sofar + n) (drop (i + 1) line)) (sym e);
            small = omega (arith, r.small, pow-succ' 10 i, ap (λ (n : ℕ). 10 ^ n) (add-one i));
          }
