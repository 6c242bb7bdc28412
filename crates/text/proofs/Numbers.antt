-- One number in a text, read digit by digit: what is left of the digits says the rest of the number.
use Prim.Native.Nat.{ℕ, ◌+◌, ◌-◌, ◌*◌, ◌≤◌, ◌<◌}
use native.Mathlib.Numerals.{add-one}
use native.Mathlib.Omega.{arith}
use mathlib.Core.Bool.{Bool, true, false, and-false}
use mathlib.Core.Logic.{⊎_elim, ◌⊎◌, inl, inr}
use mathlib.Core.Path.{◌≡◌, refl, sym, ap, ◌∙◌}
use mathlib.Core.List.{List, [], ◌∷◌}
use lib.ListN.{length, get_or, drop, drop_of_length-le, get_or-eq_default}
use lib.Seq.{drop-cons}
use lib.Dec.{leb, ltb}
use borrow.Author.Tests.{ltb-true, ltb-false, leb-true, le-leb, lt-leb}
use Rattle.std.proofs.lemmas.Option.{none-some, same_Some, some_pair_parts}
use Rattle.answer.proofs.Asked.{and_left, and_right}
use Rattle.answer.specs.Choice.{pick}
use Rattle.std.specs.Prelude.{Some, None}
use Rattle.text.specs.Decimal.{is_digit, leading, value_from, digits_at, value_at, end_at, is_number, digit_at, numeral, number_at}
use Rattle.text.proofs.Digits.{value_rises, leading_digit, leading_other, leading_none, is_digit_lem}

-- ---- the byte at a place: a digit that the digits there begin with, or none

pub record Digit (text : List ℕ) (at : ℕ) : Type 0 where
  pub here : at < length text
  pub low : 48 ≤ get_or text at 0
  pub high : get_or text at 0 ≤ 57
  pub is_digit_lem : digit_at text at ≡ Some (get_or text at 0 - 48)
  pub begins : digits_at text at ≡ get_or text at 0 ∷ digits_at text (at + 1)

pub record NoDigit (text : List ℕ) (at : ℕ) : Type 0 where
  pub is_none : digit_at text at ≡ None
  pub none : digits_at text at ≡ []

past_or_not : (text : List ℕ) (at : ℕ) (test : Bool) → ltb at (length text) ≡ test → (at < length text) ⊎ (length text ≤ at)
past_or_not text at true e = inl (ltb-true at (length text) e)
past_or_not text at false e = inr (ltb-false at (length text) e)

module _ (text : List ℕ) (at : ℕ) where
  split : at < length text → drop at text ≡ get_or text at 0 ∷ drop (at + 1) text
  split h = drop-cons text at 0 h ∙ ap (λ (n : ℕ). get_or text at 0 ∷ drop n text) (sym (add-one at))

  pub digit_here : at < length text → 48 ≤ get_or text at 0 → get_or text at 0 ≤ 57 → Digit text at
  unfolding digit_at digits_at
  digit_here h low high =
      let yes = is_digit_lem (get_or text at 0) low high in
      record {
        here = h;
        low = low;
        high = high;
        is_digit_lem = simp yes;
        begins = ap leading (split h) ∙ leading_digit (get_or text at 0) (drop (at + 1) text) yes;
      }

  pub other_here : at < length text → is_digit (get_or text at 0) ≡ false → NoDigit text at
  unfolding digit_at digits_at
  other_here h e = record { is_none = simp e; none = ap leading (split h) ∙ leading_other (get_or text at 0) (drop (at + 1) text) e }

  pub none_past : length text ≤ at → NoDigit text at
  unfolding digit_at digits_at
  none_past h =
      record {
        is_none = simp (get_or-eq_default text 0 h);
        none = ap leading (drop_of_length-le text h) ∙ leading_none;
      }

  pub low_byte : at < length text → get_or text at 0 < 48 → NoDigit text at
  low_byte h low = other_here h (simp (lt-leb 48 (get_or text at 0) low))

  pub high_byte : at < length text → 57 < get_or text at 0 → NoDigit text at
  high_byte h high = other_here h (simp (lt-leb (get_or text at 0) 57 high, and-false))

  by_byte : (test : Bool) → is_digit (get_or text at 0) ≡ test → at < length text → Digit text at ⊎ NoDigit text at
  by_byte true e h =
      inl
      (digit_here h (leb-true 48 (get_or text at 0) (and_left (leb 48 (get_or text at 0)) (leb (get_or text at 0) 57) e))
      (leb-true (get_or text at 0) 57 (and_right (leb 48 (get_or text at 0)) (leb (get_or text at 0) 57) e)))
  by_byte false e h = inr (other_here h e)

  view : Digit text at ⊎ NoDigit text at
  view =
      ⊎_elim
      (λ (h : at < length text). by_byte (is_digit (get_or text at 0)) refl h)
      (λ (h : length text ≤ at). inr (none_past h))
      (past_or_not text at (ltb at (length text)) refl)

  pub a_digit : (d : ℕ) → Some d ≡ digit_at text at → Digit text at
  a_digit d e = ⊎_elim (λ (d : Digit text at). d) (λ (n : NoDigit text at). let z : ⊥ = cc (e, n.is_none) in absurd z) view

  pub no_digit : None ≡ digit_at text at → NoDigit text at
  no_digit e = ⊎_elim (λ (d : Digit text at). let z : ⊥ = cc (e, d.is_digit_lem) in absurd z) (λ (n : NoDigit text at). n) view

-- ---- what a reading tells of the test before it

pub record Picked (test : Bool) (value end number next : ℕ) : Type 0 where
  pub yes : test ≡ true
  pub is_value : number ≡ value
  pub is_next : next ≡ end

pub picked : (test : Bool) (value end number next : ℕ) → numeral number next ≡ pick test (numeral value end) None → Picked test value end number next
picked true value end number next e =
    let same = some_pair_parts number value next end e in
    record { yes = refl; is_value = same.0; is_next = same.1 }
picked false value end number next e = absurd (none-some _ (sym e))

pub picked_none : (test : Bool) (value end : ℕ) → None ≡ pick test (numeral value end) None → test ≡ false
picked_none true value end e = absurd (none-some _ e)
picked_none false value end e = refl

-- ---- a number, by its three tests

pub length_is : (text : List ℕ) (at : ℕ) → end_at text at ≡ at + length (digits_at text at)
unfolding end_at
length_is text at = refl

module _ (text : List ℕ) (at : ℕ) where
  pub no_digits : length (digits_at text at) < 1 → is_number text at ≡ false
  unfolding is_number
  no_digits h = simp (lt-leb 1 (length (digits_at text at)) h)

  pub digits_above : 5 < length (digits_at text at) → is_number text at ≡ false
  unfolding is_number
  digits_above h = simp (lt-leb (length (digits_at text at)) 5 h, and-false)

  pub value_above : 65535 < value_at text at → is_number text at ≡ false
  unfolding is_number
  value_above h = simp (lt-leb (value_at text at) 65535 h, and-false)

  pub is_number_lem : 1 ≤ length (digits_at text at) → length (digits_at text at) ≤ 5 → value_at text at ≤ 65535 → is_number text at ≡ true
  unfolding is_number
  is_number_lem h k v = simp (le-leb 1 (length (digits_at text at)) h, le-leb (length (digits_at text at)) 5 k, le-leb (value_at text at) 65535 v)

  pub no_number : is_number text at ≡ false → None ≡ number_at text at
  unfolding number_at
  no_number e = sym (ap (λ (test : Bool). pick test (numeral (value_at text at) (end_at text at)) None) e)

  pub a_number : is_number text at ≡ true → numeral (value_at text at) (end_at text at) ≡ number_at text at
  unfolding number_at
  a_number e = sym (ap (λ (test : Bool). pick test (numeral (value_at text at) (end_at text at)) None) e)

-- ---- the loop: the digits from `next` on say the rest of the number at `at`

pub record Read (text : List ℕ) (at sofar next : ℕ) : Type 0 where
  pub same_end : end_at text at ≡ end_at text next
  pub same_value : value_at text at ≡ value_from sofar (digits_at text next)
  pub from : at ≤ next

pub read_none : (text : List ℕ) (at : ℕ) → Read text at 0 at
unfolding value_at
read_none text at = record { same_end = refl; same_value = refl; from = omega arith }

module _ (text : List ℕ) (at sofar next : ℕ) (read : Read text at sofar next) where
  module _ (digit : ℕ) (e : Some digit ≡ digit_at text next) where
    this_digit : Digit text next
    this_digit = a_digit text next digit e

    same_digit : get_or text next 0 - 48 ≡ digit
    same_digit = same_Some _ _ (sym this_digit.is_digit_lem ∙ sym e)

    pub small_digit : digit < 10
    small_digit = omega (arith, this_digit.high, same_digit)

    pub digit_inside : next < length text
    digit_inside = this_digit.here

    end_more : end_at text next ≡ end_at text (next + 1)
    unfolding end_at
    end_more = ap (λ (l : List ℕ). next + length l) this_digit.begins ∙ omega arith

    value_more : value_from sofar (digits_at text next) ≡ value_from (10 * sofar + (get_or text next 0 - 48)) (digits_at text (next + 1))
    unfolding value_from
    value_more = ap (value_from sofar) this_digit.begins

    pub read_more : Read text at (10 * sofar + digit) (next + 1)
    read_more =
        record {
          same_end = read.same_end ∙ end_more;
          same_value =
              read.same_value
              ∙ value_more
              ∙ ap (λ (k : ℕ). value_from (10 * sofar + k) (digits_at text (next + 1))) same_digit;
          from = omega (arith, read.from);
        }

  pub too_large : 65535 < sofar → None ≡ number_at text at
  too_large h = no_number text at (value_above text at (omega (arith, read.same_value, value_rises sofar (digits_at text next))))

  pub too_long : 5 < next - at → None ≡ number_at text at
  too_long h = no_number text at (digits_above text at (omega (arith, length_is text at, length_is text next, read.same_end)))

  module _ (last : None ≡ digit_at text next) where
    no_more : digits_at text next ≡ []
    no_more = (no_digit text next last).none

    end_is : end_at text at ≡ next
    unfolding end_at
    end_is = read.same_end ∙ ap (λ (l : List ℕ). next + length l) no_more ∙ omega arith

    value_is : value_at text at ≡ sofar
    unfolding value_from
    value_is = read.same_value ∙ ap (value_from sofar) no_more

    pub no_digit_at_all : next ≡ at → None ≡ number_at text at
    no_digit_at_all h = no_number text at (no_digits text at (omega (arith, length_is text at, end_is)))

    pub number_read : (next ≡ at → ⊥) → next ≤ at + 5 → sofar ≤ 65535 → numeral sofar next ≡ number_at text at
    number_read h k v =
        ap (λ (n : ℕ). numeral n next) (sym value_is)
        ∙ ap (λ (n : ℕ). numeral (value_at text at) n) (sym end_is)
        ∙ a_number text at
        (is_number_lem text at (omega (arith, length_is text at, end_is, read.from)) (omega (arith, length_is text at, end_is)) (omega (arith, value_is)))
