-- Each number is its quotient times the divisor g. So a common divisor k of the quotients makes k × g one of the numbers, which divides g.
use Prim.Native.Nat.{ℕ, ◌+◌, ◌*◌, ◌/◌, ◌<◌, ◌∣◌}
use mathlib.Core.Path.{◌≡◌, refl, sym, ap, ap₂, ◌∙◌, subst}
use native.Mathlib.Nat.{div_self, div-mul_cancel, dvd_of_mul-dvd-mul_left, eq-one_of_dvd-one, mul_assoc, mul_comm, mul-dvd-mul_left, mul-one, zero-div, zero-mod}
use Rattle.math.specs.declared.Fraction.{Fraction}
use Rattle.math.specs.Gcd.{gcd, gcd_or_one, lowest_terms, LowestTermsAreLowest}
use Rattle.math.proofs.Gcd.{gcd_or_one_lem, gcd_or_one_of, gcd_positive, gcd_positive_right, gcd_step, gcd_zero}

module _ (x y : ℕ) where
  g : ℕ
  g = gcd_or_one x y

  numer_times : g * (x / g) ≡ x
  unfolding g
  numer_times = mul_comm g (x / g) ∙ div-mul_cancel g (gcd_or_one_of x y).left

  denom_times : g * (y / g) ≡ y
  unfolding g
  denom_times = mul_comm g (y / g) ∙ div-mul_cancel g (gcd_or_one_of x y).right

  same_fraction : (lowest_terms x y).numer * y ≡ x * (lowest_terms x y).denom
  unfolding lowest_terms g
  same_fraction =
      ap (λ (n : ℕ). x / g * n) (sym denom_times)
      ∙ sym (mul_assoc (x / g) g (y / g))
      ∙ ap (λ (n : ℕ). n * (y / g)) (mul_comm (x / g) g ∙ numer_times)

  lowest_divisor : 0 < x + y → (k : ℕ) → k ∣ (lowest_terms x y).numer → k ∣ (lowest_terms x y).denom → k ≡ 1
  unfolding lowest_terms g
  lowest_divisor some k left right =
      let l : g * k ∣ x = subst (λ (n : ℕ). g * k ∣ n) numer_times (mul-dvd-mul_left k g left) in
      let r : g * k ∣ y = subst (λ (n : ℕ). g * k ∣ n) denom_times (mul-dvd-mul_left k g right) in
      let both : g * k ∣ g * 1 = subst (λ (n : ℕ). g * k ∣ n) (sym (mul-one g)) ((gcd_or_one_of x y).greatest some (g * k) l r) in
      eq-one_of_dvd-one (dvd_of_mul-dvd-mul_left k (gcd_or_one_of x y).positive both)

abbrev over : ℕ → ℕ → ℕ → Fraction
over x y g = record { numer = x / g; denom = y / g }

abbrev fraction : ℕ → ℕ → Fraction
fraction x y = record { numer = x; denom = y }

-- where the divisor is one of the numbers
over_zero_is : (x : ℕ) → 0 < x → lowest_terms x 0 ≡ fraction 1 0
unfolding lowest_terms
over_zero_is x h =
    ap (over x 0) (gcd_or_one_lem x 0 (gcd_positive x 0 h) ∙ gcd_zero x)
    ∙ ap₂ fraction (div_self h) (zero-div x)

gcd_of_zero : (y : ℕ) → 0 < y → gcd 0 y ≡ y
gcd_of_zero y h = gcd_step 0 y h ∙ ap (gcd y) (zero-mod y) ∙ gcd_zero y

of_zero_is : (y : ℕ) → 0 < y → lowest_terms 0 y ≡ fraction 0 1
unfolding lowest_terms
of_zero_is y h =
    ap (over 0 y) (gcd_or_one_lem 0 y (gcd_positive_right 0 y h) ∙ gcd_of_zero y h)
    ∙ ap₂ fraction (zero-div y) (div_self h)

zeros_stay : lowest_terms 0 0 ≡ fraction 0 0
unfolding lowest_terms
zeros_stay = refl

pub lowest_terms_are_lowest : LowestTermsAreLowest
lowest_terms_are_lowest = record {
  same = same_fraction;
  lowest = lowest_divisor;
  zeros = zeros_stay;
  over_zero = over_zero_is;
  of_zero = of_zero_is;
}
