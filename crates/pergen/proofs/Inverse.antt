-- The inverse exists, by Bezout's equation along Euclid's steps, and is the only one; the search finds it.
use Prim.Native.Nat.{ℕ, zero, ◌+◌, ◌*◌, ◌-◌, ◌/◌, ◌%◌, ◌≤◌, ◌<◌}
use mathlib.Core.Path.{◌≡◌, sym, ap, ap₂, ◌∙◌}
use mathlib.Core.Bool.{Bool, true}
use lib.Dec.{eqb}
use borrow.Author.Tests.{eq-eqb, eqb-true}
use native.Mathlib.Nat.{mul-add, add-mul, mul_assoc, mul_comm, mul_left_comm, mul-one, one-mul, zero-mul, zero-mod, mod_self, mod-eq_of_lt, mod-lt, div-add-mod', sub-add_cancel, add_assoc, add-zero, add-mul-mod_self_right, div-mul_cancel, mod-mod, le_of_dvd, le-div_iff_mul-le, le-mul_of_pos_right}
use native.Mathlib.Omega.{arith}
use Rattle.math.specs.Gcd.{gcd}
use Rattle.math.specs.Passing.{first}
use Rattle.math.proofs.Congruence.{add_cong, add_cancel, mul_cong, two_digits_agree}
use Rattle.math.proofs.Gcd.{gcd_zero, gcd_step, euclid_induction, gcd_is, gcd_positive}
use Rattle.math.proofs.Passing.{first_finds}
use Rattle.pergen.specs.Pergen.{cycles, reduced, IsInverse, inverse}
use Rattle.pergen.specs.Theorems.{OneInverse}

-- ---- Bezout: c y leaves the greatest common divisor of M and y on division by M

-- one step: c₀ y ≡ r₀ and c₁ y ≡ r₁, and c₂ ≡ c₀ − q c₁: then c₂ y ≡ r₀ − q r₁
bezout_step : (M y r₀ r₁ c₀ c₁ c₂ : ℕ) → c₀ * y % M ≡ r₀ % M → c₁ * y % M ≡ r₁ % M
    → (c₂ + r₀ / r₁ * c₁) % M ≡ c₀ % M → c₂ * y % M ≡ (r₀ % r₁) % M
bezout_step M y r₀ r₁ c₀ c₁ c₂ h₀ h₁ h =
    add_cancel M (r₀ / r₁ * (c₁ * y)) (c₂ * y) (r₀ % r₁)
    (ap (λ (z : ℕ). z % M) (distributed ∙ mul_comm (c₂ + r₀ / r₁ * c₁) y)
    ∙ mul_cong M y _ _ h
    ∙ ap (λ (z : ℕ). z % M) (mul_comm y c₀)
    ∙ h₀
    ∙ ap (λ (z : ℕ). z % M) (sym (div-add-mod' r₀ r₁))
    ∙ sym (add_cong M (r₀ % r₁) _ _ (mul_cong M (r₀ / r₁) _ _ h₁))
    ∙ ap (λ (z : ℕ). z % M) (omega arith))
  where
    distributed : c₂ * y + r₀ / r₁ * (c₁ * y) ≡ (c₂ + r₀ / r₁ * c₁) * y
    distributed = sym (add-mul c₂ (r₀ / r₁ * c₁) y ∙ ap (λ (z : ℕ). c₂ * y + z) (mul_assoc (r₀ / r₁) c₁ y))

bezout_first : (M y : ℕ) → zero * y % M ≡ M % M
bezout_first M y = ap (λ (z : ℕ). z % M) (zero-mul y) ∙ zero-mod M ∙ sym (mod_self M)

bezout_second : (M y : ℕ) → 1 * y % M ≡ y % M
bezout_second M y = ap (λ (z : ℕ). z % M) (one-mul y)

bezout : (M y : ℕ) → zero < M → (c : ℕ) × (c * y % M ≡ gcd M y % M)
bezout M y hM =
    euclid_induction (λ r₀ r₁. (c₀ c₁ : ℕ) → c₀ * y % M ≡ r₀ % M → c₁ * y % M ≡ r₁ % M → (c : ℕ) × (c * y % M ≡ gcd r₀ r₁ % M))
    (λ r₀ c₀ c₁ h₀ h₁. (c₀, h₀ ∙ ap (λ (z : ℕ). z % M) (sym (gcd_zero r₀))))
    (λ r₀ r₁ h ih c₀ c₁ h₀ h₁.
    let r : (c : ℕ) × (c * y % M ≡ gcd r₁ (r₀ % r₁) % M)
    = ih c₁ (c₀ + r₀ / r₁ * (c₁ * M - c₁)) h₁ (bezout_step M y r₀ r₁ c₀ c₁ _ h₀ h₁ (back c₀ c₁ (r₀ / r₁))) in
    (r.0, r.1 ∙ ap (λ (z : ℕ). z % M) (sym (gcd_step r₀ r₁ h))))
    M y zero 1 (bezout_first M y) (bezout_second M y)
  where
    back : (c₀ c₁ q : ℕ) → (c₀ + q * (c₁ * M - c₁) + q * c₁) % M ≡ c₀ % M
    back c₀ c₁ q =
        ap (λ (z : ℕ). z % M)
        (add_assoc c₀ _ _
        ∙ ap (λ (z : ℕ). c₀ + z)
        (sym (mul-add q _ _) ∙ ap (λ (z : ℕ). q * z) (sub-add_cancel (le-mul_of_pos_right c₁ hM)) ∙ sym (mul_assoc q c₁ M)))
        ∙ add-mul-mod_self_right c₀ (q * c₁) M

-- ---- the numbers of a pergen

-- P = R n, G = g n, and x g leaves the remainder of 1 on division by R
pub record Numbers (P G n R g x : ℕ) : Type 0 where
  pub some_cycles : zero < n
  pub some_keys : zero < R
  pub period : P ≡ R * n
  pub generator : G ≡ g * n
  pub below : x < R
  pub one : x * g % R ≡ 1 % R

module _ (P G : ℕ) (hP : zero < P) where
  pub cycles_positive : zero < cycles P G
  unfolding cycles
  cycles_positive = gcd_positive P G hP

  pub period_is : P ≡ reduced P G * cycles P G
  unfolding cycles reduced
  period_is = sym (div-mul_cancel _ (gcd_is P G).left)

  generator_is : G ≡ G / cycles P G * cycles P G
  unfolding cycles
  generator_is = sym (div-mul_cancel _ (gcd_is P G).right)

  pub reduced_positive : zero < reduced P G
  unfolding cycles reduced
  reduced_positive = (le-div_iff_mul-le cycles_positive).1 (rw one-mul (le_of_dvd hP (gcd_is P G).left))

  -- if c G leaves n on division by P, then c mod R is an inverse: divide all by n
  inverse_by : (c : ℕ) → c * G % P ≡ cycles P G % P → IsInverse P G (c % reduced P G)
  inverse_by c e =
      let n = cycles P G in
      let R = reduced P G in
      let g = G / cycles P G in
      let e' : c * (g * n) % (R * n) ≡ n % (R * n)
      = ap₂ (λ (x y : ℕ). c * x % y) (sym generator_is) (sym period_is) ∙ e ∙ ap (λ (x : ℕ). n % x) period_is in
      record {
        below = mod-lt c reduced_positive;
        one =
            ap (λ (z : ℕ). z % R) (mul_comm (c % R) g)
            ∙ mul_cong R g (c % R) c (mod-mod c R)
            ∙ ap (λ (z : ℕ). z % R) (mul_comm g c)
            ∙ (two_digits_agree R n (c * g) 1 zero zero reduced_positive cycles_positive cycles_positive
            (ap (λ (z : ℕ). z % (R * n)) (add-zero (c * g * n) ∙ mul_assoc c g n)
            ∙ e'
            ∙ ap (λ (z : ℕ). z % (R * n)) (sym (add-zero (1 * n) ∙ one-mul n)))).0;
      }

  only_one : (x y : ℕ) → IsInverse P G x → IsInverse P G y → x ≡ y
  only_one x y ix iy =
      let R = reduced P G in
      let g = G / cycles P G in
      sym (mod-eq_of_lt ix.below)
      ∙ ap (λ (z : ℕ). z % R) (sym (mul-one x))
      ∙ sym (mul_cong R x (y * g) 1 iy.one)
      ∙ ap (λ (z : ℕ). z % R) (mul_left_comm x y g)
      ∙ mul_cong R y (x * g) 1 ix.one
      ∙ ap (λ (z : ℕ). z % R) (mul-one y)
      ∙ mod-eq_of_lt iy.below

  -- what the search finds, given that there is one
  found : (w : ℕ) → IsInverse P G w → IsInverse P G (inverse P G)
  unfolding inverse
  found w h =
      let test : ℕ → Bool = λ x. eqb (x * (G / cycles P G) % reduced P G) (1 % reduced P G) in
      let r : (test (first test (reduced P G) 0) ≡ true) × (first test (reduced P G) 0 ≤ w)
      = first_finds test (reduced P G) 0 w (omega arith) (omega (arith, h.below)) (eq-eqb _ _ h.one) in
      record { below = omega (arith, r.1, h.below); one = eqb-true _ _ r.0 }

  inverse_exists : IsInverse P G (inverse P G)
  unfolding cycles
  inverse_exists =
      let b : (c : ℕ) × (c * G % P ≡ gcd P G % P) = bezout P G hP in
      found (b.0 % reduced P G) (inverse_by b.0 b.1)

  -- for code that computes it: c G leaves n on division by P, so c mod R is the inverse
  pub inverse_is : (c : ℕ) → c * G % P ≡ cycles P G % P → c % reduced P G ≡ inverse P G
  inverse_is c e = only_one _ _ (inverse_by c e) inverse_exists

  pub numbers : Numbers P G (cycles P G) (reduced P G) (G / cycles P G) (inverse P G)
  numbers =
      record {
        some_cycles = cycles_positive;
        some_keys = reduced_positive;
        period = period_is;
        generator = generator_is;
        below = inverse_exists.below;
        one = inverse_exists.one;
      }

pub one_inverse : OneInverse
one_inverse P G hP = (inverse_exists P G hP, λ x h. only_one P G hP x (inverse P G) h (inverse_exists P G hP))
