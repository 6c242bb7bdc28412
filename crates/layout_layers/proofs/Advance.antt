-- The advance (G mod P) / n: it is G / n modulo R, so its inverse modulo R is that of the generator.
use Prim.Native.Nat.{ℕ, ◌*◌, ◌/◌, ◌%◌, ◌<◌, ◌∣◌}
use mathlib.Core.Path.{◌≡◌, sym, ap, ap₂, subst, ◌∙◌}
use native.Mathlib.Nat.{add-zero, one-mul, mul-div_cancel, mod-lt, mod-mod, div-one, dvd-mod_iff, mul-dvd-mul_right, dvd_of_mul-dvd-mul_right, eq-one_of_dvd-one}
use native.Mathlib.Omega.{arith}
use Rattle.math.specs.Gcd.{gcd}
use Rattle.math.proofs.Congruence.{mul_cong, two_digits}
use Rattle.math.proofs.Gcd.{gcd_is}
use Rattle.pergen.specs.Pergen.{cycles, reduced, inverse}
use Rattle.pergen.proofs.Inverse.{cycles_positive, reduced_positive, numbers, one_inverse}
use Rattle.layout_layers.specs.declared.chain.Chain.{Chain}
use Rattle.layout_layers.specs.Kept.{inverse_of, Unbroken}

module _ (P G : ℕ) (some : 0 < P) where
  abbrev n : ℕ
  n = cycles P G

  abbrev R : ℕ
  R = reduced P G

  abbrev a : ℕ
  a = G % P / n

  step_is : G % P ≡ G / n % R * n
  step_is =
      ap₂ (λ (x y : ℕ). x % y) ((numbers P G some).generator ∙ sym (add-zero (G / n * n))) (numbers P G some).period
      ∙ two_digits R n (G / n) 0 (reduced_positive P G some) (cycles_positive P G some)
      ∙ add-zero _

  advance_is : a ≡ G / n % R
  advance_is = ap (λ (x : ℕ). x / n) step_is ∙ mul-div_cancel (G / n % R) (cycles_positive P G some)

  pub advance_below : a < R
  advance_below = subst (λ (x : ℕ). x < R) (sym advance_is) (mod-lt (G / n) (reduced_positive P G some))

  pub advance_one : inverse P G * a % R ≡ 1 % R
  advance_one =
      ap (λ (x : ℕ). inverse P G * x % R) advance_is
      ∙ mul_cong R (inverse P G) (G / n % R) (G / n) (mod-mod (G / n) R)
      ∙ (numbers P G some).one

  -- a common divisor of R and the advance, times n, divides both P and G
  advance_cycles : cycles R a ≡ 1
  unfolding cycles
  advance_cycles =
      let d = gcd R a in
      let whole : d * gcd P G ∣ P
      = subst (λ (x : ℕ). d * gcd P G ∣ x) (sym (numbers P G some).period) (mul-dvd-mul_right d (gcd_is R a).left (gcd P G)) in
      let step : d * gcd P G ∣ G % P
      = subst (λ (x : ℕ). d * gcd P G ∣ x) (ap (λ (x : ℕ). x * gcd P G) advance_is ∙ sym step_is) (mul-dvd-mul_right d (gcd_is R a).right (gcd P G)) in
      let both : d * gcd P G ∣ gcd P G = (gcd_is P G).greatest (d * gcd P G) whole ((dvd-mod_iff (d * gcd P G) whole).0 step) in
      eq-one_of_dvd-one
      (dvd_of_mul-dvd-mul_right d (cycles_positive P G some) (subst (λ (x : ℕ). d * gcd P G ∣ x) (sym (one-mul (gcd P G))) both))

  whole_reduced : reduced R a ≡ R
  unfolding reduced
  whole_reduced = ap (λ (x : ℕ). R / x) advance_cycles ∙ div-one R

  whole_advance : a / cycles R a ≡ a
  whole_advance = ap (λ (x : ℕ). a / x) advance_cycles ∙ div-one a

  pub advance_inverse : inverse R a ≡ inverse P G
  advance_inverse =
      sym
      ((one_inverse R a (reduced_positive P G some)).1 (inverse P G)
      (record {
        below = subst (λ (x : ℕ). inverse P G < x) (sym whole_reduced) (numbers P G some).below;
        one = ap₂ (λ (x y : ℕ). inverse P G * x % y) whole_advance whole_reduced ∙ advance_one ∙ ap (λ (x : ℕ). 1 % x) (sym whole_reduced);
      }))

-- ---- the chain with these numbers

module _ (P G : ℕ) (some : 0 < P) (c : Chain) (number : c.num_cycles ≡ cycles P G) (period : c.reduced_period ≡ reduced P G)
    (advance : c.advance ≡ G % P / cycles P G) where
  pub chain_inverse : inverse_of c ≡ inverse P G
  unfolding inverse_of
  chain_inverse = ap₂ inverse period advance ∙ advance_inverse P G some

  pub chain_unbroken : c.start < reduced P G → Unbroken c
  chain_unbroken h =
      record {
        some_cycles = subst (λ (k : ℕ). 0 < k) (sym number) (cycles_positive P G some);
        start_below = subst (λ (k : ℕ). c.start < k) (sym period) h;
        advance_below = omega (arith, advance, period, advance_below P G some);
        one = ap₂ (λ (x y : ℕ). x * y % c.reduced_period) chain_inverse advance
            ∙ ap (λ (k : ℕ). inverse P G * (G % P / cycles P G) % k) period
            ∙ advance_one P G some
            ∙ ap (λ (k : ℕ). 1 % k) (sym period);
      }
