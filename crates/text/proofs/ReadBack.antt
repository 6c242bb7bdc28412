-- Written digits are read back: they are digits, the byte behind them is none, so the number is read where it stands.
use Prim.Native.Nat.{ℕ, ◌+◌, ◌%◌, ◌<◌}
use native.Mathlib.Omega.{arith}
use mathlib.Core.Bool.{true, false}
use mathlib.Core.Path.{◌≡◌, refl, sym, ap, ◌∙◌, subst}
use mathlib.Core.List.{List, [], ◌∷◌, ◌++◌}
use lib.ListN.{length, drop}
use lib.Seq.{drop_at}
use Rattle.text.specs.Decimal.{is_digit, leading, value, digits, digits_at, value_at, end_at, is_number, numeral, number_at}
use Rattle.text.specs.Theorems.{DigitsReadBack}
use Rattle.text.proofs.Digits.{digits_one, digits_more, by_digits, is_digit_lem, leading_digit, leading_other, value_digits, digits_length}
use Rattle.text.proofs.Numbers.{is_number_lem, a_number, length_is}

-- ---- a text of digits alone

data OnlyDigits : List ℕ → Type 0 where
  none : OnlyDigits []
  more : {byte : ℕ} {rest : List ℕ} → is_digit byte ≡ true → OnlyDigits rest → OnlyDigits (byte ∷ rest)

only_append : {s t : List ℕ} → OnlyDigits s → OnlyDigits t → OnlyDigits (s ++ t)
only_append none d = d
only_append (more e r) d = more e (only_append r d)

leading_only : {text : List ℕ} → OnlyDigits text → (byte : ℕ) (rest : List ℕ) → is_digit byte ≡ false → leading (text ++ byte ∷ rest) ≡ text
leading_only none byte rest e = leading_other byte rest e
leading_only (more {byte = b} {rest = t} d r) byte rest e = leading_digit b (t ++ byte ∷ rest) d ∙ ap (λ (l : List ℕ). b ∷ l) (leading_only r byte rest e)

digits_only : (n : ℕ) → OnlyDigits (digits n)
digits_only n =
    by_digits (λ (m : ℕ). OnlyDigits (digits m))
    (λ m h. subst OnlyDigits (sym (digits_one m h)) (more (is_digit_lem (48 + m) (omega arith) (omega arith)) none))
    (λ m h r.
    subst OnlyDigits (sym (digits_more m h))
    (only_append r (more (is_digit_lem (48 + m % 10) (omega arith) (omega arith)) none)))
    (n + 1)
    n
    (omega arith)

-- ---- a number that stands in a text

module _ (text before rest : List ℕ) (at n behind : ℕ) (where-is : length before ≡ at) (stands : text ≡ before ++ (digits n ++ behind ∷ rest)) (other : is_digit behind ≡ false) where
  digits_are : digits_at text at ≡ digits n
  unfolding digits_at
  digits_are =
      ap (λ (l : List ℕ). leading (drop at l)) stands
      ∙ ap leading (drop_at before (digits n ++ behind ∷ rest) at where-is)
      ∙ leading_only (digits_only n) behind rest other

  pub value_stands : value_at text at ≡ n
  unfolding value_at
  value_stands = ap value digits_are ∙ value_digits n

  pub end_stands : end_at text at ≡ at + length (digits n)
  end_stands = length_is text at ∙ ap (λ (l : List ℕ). at + length l) digits_are

  pub number_stands : n < 65536 → is_number text at ≡ true
  number_stands h =
      let few = digits_length n h in
      is_number_lem text at
      (rw digits_are (omega (arith, few.is_length, few.some)))
      (rw digits_are (omega (arith, few.is_length, few.few)))
      (rw value_stands (omega arith))

in_text : (n byte : ℕ) (before rest : List ℕ) → n < 65536 → is_digit byte ≡ false
    → number_at (before ++ (digits n ++ byte ∷ rest)) (length before) ≡ numeral n (length before + length (digits n))
in_text n byte before rest h e =
    let text = before ++ (digits n ++ byte ∷ rest) in
    let at = length before in
    sym (a_number text at (number_stands text before rest at n byte refl refl e h))
    ∙ ap (λ (k : ℕ). numeral k (end_at text at)) (value_stands text before rest at n byte refl refl e)
    ∙ ap (λ (k : ℕ). numeral n k) (end_stands text before rest at n byte refl refl e)

pub digits_read_back : DigitsReadBack
digits_read_back = record { back = value_digits; lengths = digits_length; in_text = in_text }
