-- Decimal digits: a number of more than one digit is a tenth of it, then its last digit; so written digits are read back.
use Prim.Native.Nat.{ℕ, zero, suc, ◌+◌, ◌-◌, ◌*◌, ◌/◌, ◌%◌, ◌^◌, ◌≤◌, ◌<◌}
use native.Mathlib.Nat.{pow-suc, mod-eq_of_lt}
use native.Mathlib.Numerals.{add-one}
use native.Mathlib.Omega.{arith}
use mathlib.Core.Bool.{Bool, true, false}
use mathlib.Core.Logic.{⊎_elim, ◌⊎◌, inl, inr}
use mathlib.Core.Path.{◌≡◌, refl, sym, ap, ap₂, ◌∙◌, subst}
use mathlib.Core.List.{List, [], ◌∷◌, ◌++◌}
use lib.ListN.{length, length-append, set}
use lib.Dec.{ltb}
use borrow.Author.Tests.{lt-ltb, le-ltb, ltb-true, ltb-false, le-leb}
use Rattle.answer.specs.Choice.{pick}
use Rattle.text.specs.Writing.{Room, Wrote}
use Rattle.text.proofs.Writing.{then, wrote_as, wrote_length, room_next}
use Rattle.text.specs.Decimal.{is_digit, leading, value_from, value, last_digits, digits, DigitsLength}

-- ---- writing: the two steps, with no bound on the digits in sight

last_one : (most n : ℕ) → n < 10 → last_digits (suc most) n ≡ (48 + n) ∷ []
unfolding last_digits
last_one most n h =
    ap (λ (test : Bool). elim test [ true ↦ (48 + n) ∷ [] | false ↦ last_digits most (n / 10) ++ ((48 + n % 10) ∷ []) ]) (lt-ltb n 10 h)

last_more : (most n : ℕ) → 10 ≤ n → last_digits (suc most) n ≡ last_digits most (n / 10) ++ ((48 + n % 10) ∷ [])
unfolding last_digits
last_more most n h =
    ap (λ (test : Bool). elim test [ true ↦ (48 + n) ∷ [] | false ↦ last_digits most (n / 10) ++ ((48 + n % 10) ∷ []) ]) (le-ltb n 10 h)

-- below 10, or not
by_test : (n : ℕ) (test : Bool) → ltb n 10 ≡ test → (n < 10) ⊎ (10 ≤ n)
by_test n true e = inl (ltb-true n 10 e)
by_test n false e = inr (ltb-false n 10 e)

small_or_not : (n : ℕ) → (n < 10) ⊎ (10 ≤ n)
small_or_not n = by_test n (ltb n 10) refl

-- any bound above the number will do
any_bound : (a b n : ℕ) → n < a → n < b → last_digits a n ≡ last_digits b n
any_bound zero b n h k = absurd (omega arith)
any_bound (suc a) zero n h k = absurd (omega arith)
any_bound (suc a) (suc b) n h k =
    ⊎_elim
    (λ (small : n < 10). last_one a n small ∙ sym (last_one b n small))
    (λ (more : 10 ≤ n).
    last_more a n more
    ∙ ap (λ (l : List ℕ). l ++ ((48 + n % 10) ∷ [])) (any_bound a b (n / 10) (omega arith) (omega arith))
    ∙ sym (last_more b n more))
    (small_or_not n)

pub digits_one : (n : ℕ) → n < 10 → digits n ≡ (48 + n) ∷ []
unfolding digits
digits_one n h = ap (λ (most : ℕ). last_digits most n) (add-one n) ∙ last_one n n h

pub digits_more : (n : ℕ) → 10 ≤ n → digits n ≡ digits (n / 10) ++ ((48 + n % 10) ∷ [])
unfolding digits
digits_more n h =
    ap (λ (most : ℕ). last_digits most n) (add-one n)
    ∙ last_more n n h
    ∙ ap (λ (l : List ℕ). l ++ ((48 + n % 10) ∷ [])) (any_bound n (n / 10 + 1) (n / 10) (omega arith) (omega arith))

-- what holds of a digit, and goes on to one digit more, holds of all numbers
pub by_digits : (P : ℕ → Type 0) → ((n : ℕ) → n < 10 → P n) → ((n : ℕ) → 10 ≤ n → P (n / 10) → P n) → (most n : ℕ) → n < most → P n
by_digits P one more zero n h = absurd (omega arith)
by_digits P one more (suc most) n h =
    ⊎_elim (λ (small : n < 10). one n small) (λ (large : 10 ≤ n). more n large (by_digits P one more most (n / 10) (omega arith))) (small_or_not n)

-- ---- lengths

pub length_one : (n : ℕ) → n < 10 → length (digits n) ≡ 1
length_one n h = ap length (digits_one n h)

pub length_more : (n : ℕ) → 10 ≤ n → length (digits n) ≡ length (digits (n / 10)) + 1
length_more n h = ap length (digits_more n h) ∙ length-append (digits (n / 10)) ((48 + n % 10) ∷ [])

pub length_two : (n : ℕ) → 10 ≤ n → n < 100 → length (digits n) ≡ 2
length_two n h k = length_more n h ∙ ap (λ (l : ℕ). l + 1) (length_one (n / 10) (omega arith))

pub length_three : (n : ℕ) → 100 ≤ n → n < 1000 → length (digits n) ≡ 3
length_three n h k = length_more n (omega arith) ∙ ap (λ (l : ℕ). l + 1) (length_two (n / 10) (omega arith) (omega arith))

pub length_four : (n : ℕ) → 1000 ≤ n → n < 10000 → length (digits n) ≡ 4
length_four n h k = length_more n (omega arith) ∙ ap (λ (l : ℕ). l + 1) (length_three (n / 10) (omega arith) (omega arith))

pub length_five : (n : ℕ) → 10000 ≤ n → n < 100000 → length (digits n) ≡ 5
length_five n h k = length_more n (omega arith) ∙ ap (λ (l : ℕ). l + 1) (length_four (n / 10) (omega arith) (omega arith))

pub of_length : (n k : ℕ) → length (digits n) ≡ k → 1 ≤ k → k ≤ 5 → DigitsLength n k
of_length n k e h l = record { is_length = sym e; some = h; few = l }

length_up_to : (k n : ℕ) → n < 10 ^ suc k → length (digits n) ≤ suc k
length_up_to zero n h = omega (arith, length_one n h)
length_up_to (suc k) n h =
    ⊎_elim
    (λ (small : n < 10). omega (arith, length_one n small))
    (λ (more : 10 ≤ n). omega (arith, length_more n more, length_up_to k (n / 10) (omega (arith, pow-suc 10 (suc k)))))
    (small_or_not n)

some_digits : (n : ℕ) → 1 ≤ length (digits n)
some_digits n =
    ⊎_elim
    (λ (small : n < 10). omega (arith, length_one n small))
    (λ (more : 10 ≤ n). omega (arith, length_more n more))
    (small_or_not n)

pub digits_length : (n : ℕ) → n < 65536 → DigitsLength n (length (digits n))
digits_length n h = record { is_length = refl; some = some_digits n; few = length_up_to 4 n (omega arith) }

-- ---- writing into a slice: room for the digits

pub room_last : {xs ys : List ℕ} {at mid n : ℕ} → 10 ≤ n → Wrote xs at (digits (n / 10)) ys mid → Room xs at (digits n) → Room ys mid ((48 + n % 10) ∷ [])
room_last {xs} {ys} {at} {mid} {n} h w r = room_next ((48 + n % 10) ∷ []) w (subst (Room xs at) (digits_more n h) r)

pub wrote_one_digit : {xs ys : List ℕ} {at next n : ℕ} → n < 10 → Wrote xs at ((48 + n) ∷ []) ys next → Wrote xs at (digits n) ys next
wrote_one_digit {xs} {ys} {at} {next} {n} h w = wrote_as (sym (digits_one n h)) w

pub wrote_digits : {xs ys zs : List ℕ} {at mid next n : ℕ} → 10 ≤ n → Wrote xs at (digits (n / 10)) ys mid → Wrote ys mid ((48 + n % 10) ∷ []) zs next
    → Wrote xs at (digits n) zs next
wrote_digits {xs} {ys} {zs} {at} {mid} {next} {n} h v w = wrote_as (sym (digits_more n h)) (then v w)

-- ---- one digit or two, by the same two stores

set_twice : (l : List ℕ) (i v : ℕ) → set (set l i v) i v ≡ set l i v
set_twice [] i v = refl
set_twice (x ∷ l) zero v = refl
set_twice (x ∷ l) (suc i) v = ap (λ (m : List ℕ). x ∷ m) (set_twice l i v)

pub first_small : (n first : ℕ) → n < 100 → first ≡ pick (ltb n 10) n (n / 10) → first < 10
first_small n first h f = subst (λ (k : ℕ). k < 10) (sym f) (by (ltb n 10) refl)
  where
    by : (t : Bool) → ltb n 10 ≡ t → pick t n (n / 10) < 10
    by true e = ltb-true n 10 e
    by false e = omega (arith, h)

pub far_inside : (n far : ℕ) → n < 100 → far ≡ pick (ltb n 10) 0 1 → far + 1 ≤ length (digits n)
far_inside n far h p = subst (λ (k : ℕ). k + 1 ≤ length (digits n)) (sym p) (by (ltb n 10) refl)
  where
    by : (t : Bool) → ltb n 10 ≡ t → pick t 0 1 + 1 ≤ length (digits n)
    by true e = omega (arith, length_one n (ltb-true n 10 e))
    by false e = omega (arith, length_two n (ltb-false n 10 e) h)

module _ {xs ys : List ℕ} {at place end : ℕ} (n first far : ℕ) (h : n < 100) (f : first ≡ pick (ltb n 10) n (n / 10))
    (p : far ≡ pick (ltb n 10) 0 1) (q : place ≡ at + far) (v : Wrote xs at ((48 + first) ∷ []) ys end) where
  pub room_short : Room xs at (digits n) → Room ys place ((48 + n % 10) ∷ [])
  room_short r = by (ltb n 10) refl
    where
      by : (t : Bool) → ltb n 10 ≡ t → Room ys place ((48 + n % 10) ∷ [])
      by true e =
          let one = length_one n (ltb-true n 10 e) in
          let none : far ≡ 0 = p ∙ ap (λ (b : Bool). pick b 0 1) e in
          omega (arith, one, none, q, r, wrote_length v)
      by false e =
          let two = length_two n (ltb-false n 10 e) h in
          let some : far ≡ 1 = p ∙ ap (λ (b : Bool). pick b 0 1) e in
          omega (arith, two, some, q, r, wrote_length v)

  pub wrote_short : {zs : List ℕ} {next : ℕ} → Wrote ys place ((48 + n % 10) ∷ []) zs next → Wrote xs at (digits n) zs next
  wrote_short {zs} {next} w = by (ltb n 10) refl
    where
      by : (t : Bool) → ltb n 10 ≡ t → Wrote xs at (digits n) zs next
      by true e =
          let below = ltb-true n 10 e in
          let same : n % 10 ≡ n = mod-eq_of_lt below in
          let lead : first ≡ n = f ∙ ap (λ (b : Bool). pick b n (n / 10)) e in
          let there : place ≡ at = omega (arith, q, p ∙ ap (λ (b : Bool). pick b 0 1) e) in
          wrote_one_digit below
          (record {
            content =
                w.content
                ∙ ap₂ (λ (k d : ℕ). set ys k (48 + d)) there same
                ∙ ap (λ (l : List ℕ). set l at (48 + n)) (v.content ∙ ap (λ (d : ℕ). set xs at (48 + d)) lead)
                ∙ set_twice xs at (48 + n);
            end = w.end ∙ ap (λ (k : ℕ). k + 1) there;
          })
      by false e =
          let above = ltb-false n 10 e in
          let lead : first ≡ n / 10 = f ∙ ap (λ (b : Bool). pick b n (n / 10)) e in
          let behind : end ≡ place = omega (arith, v.end, q, p ∙ ap (λ (b : Bool). pick b 0 1) e) in
          wrote_digits above
          (wrote_one_digit (omega arith) (subst (λ (d : ℕ). Wrote xs at ((48 + d) ∷ []) ys end) lead v))
          (subst (λ (k : ℕ). Wrote ys k ((48 + n % 10) ∷ []) zs next) (sym behind) w)

-- ---- reading: values

pub value_last : (sofar : ℕ) (text : List ℕ) (d : ℕ) → value_from sofar (text ++ (d ∷ [])) ≡ 10 * value_from sofar text + (d - 48)
unfolding value_from
value_last sofar [] d = refl
value_last sofar (a ∷ text) d = value_last (10 * sofar + (a - 48)) text d

value_one : (n : ℕ) → value ((48 + n) ∷ []) ≡ n
unfolding value_from
value_one n = omega arith

pub value_digits : (n : ℕ) → value (digits n) ≡ n
value_digits n =
    by_digits (λ (m : ℕ). value (digits m) ≡ m)
    (λ m h. ap value (digits_one m h) ∙ value_one m)
    (λ m h e. ap value (digits_more m h) ∙ value_last 0 (digits (m / 10)) (48 + m % 10) ∙ omega (arith, e))
    (n + 1)
    n
    (omega arith)

-- ---- reading: the digits that a text begins with

pub leading_digit : (byte : ℕ) (rest : List ℕ) → is_digit byte ≡ true → leading (byte ∷ rest) ≡ byte ∷ leading rest
unfolding leading
leading_digit byte rest e = ap (λ (test : Bool). elim test [ true ↦ byte ∷ leading rest | false ↦ [] ]) e

pub leading_other : (byte : ℕ) (rest : List ℕ) → is_digit byte ≡ false → leading (byte ∷ rest) ≡ []
unfolding leading
leading_other byte rest e = ap (λ (test : Bool). elim test [ true ↦ byte ∷ leading rest | false ↦ [] ]) e

pub leading_none : leading [] ≡ []
unfolding leading
leading_none = refl

pub is_digit_lem : (byte : ℕ) → 48 ≤ byte → byte ≤ 57 → is_digit byte ≡ true
is_digit_lem byte low high = simp (le-leb 48 byte low, le-leb byte 57 high)

-- a value never falls
pub value_rises : (sofar : ℕ) (text : List ℕ) → sofar ≤ value_from sofar text
unfolding value_from
value_rises sofar [] = omega arith
value_rises sofar (a ∷ text) = omega (arith, value_rises (10 * sofar + (a - 48)) text)
