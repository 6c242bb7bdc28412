-- Halving: a number above 0 is halved fewer times than it is large, so the bound on the halvings is never met.
use Prim.Native.Nat.{ℕ, zero, suc, ◌*◌, ◌/◌, ◌%◌, ◌^◌, ◌≤◌, ◌<◌}
use mathlib.Core.Bool.{Bool, true, false}
use mathlib.Core.Path.{◌≡◌, refl, sym, ap, ◌∙◌}
use native.Mathlib.Nat.{le_refl, mul-one, mul_assoc, pow-suc}
use native.Mathlib.Omega.{arith}
use lib.Dec.{eqb}
use borrow.Author.Tests.{eq-eqb, ne_eqb, eqb-true, eqb-false}
use Rattle.math.specs.OddFactors.{halved, odd_factors, OddFactorsAreLeft}

-- the two cases of a halving
halved_even : (k n : ℕ) → n % 2 ≡ 0 → halved (suc k) n ≡ halved k (n / 2)
unfolding halved
halved_even k n e = rw (eq-eqb (n % 2) 0 e, halved)

halved_odd : (k n : ℕ) → (n % 2 ≡ 0 → ⊥) → halved k n ≡ n
unfolding halved
halved_odd zero n e = refl
halved_odd (suc k) n e = rw (ne_eqb (n % 2) 0 e, halved)

-- by the two cases
by_parity : {A : Type 0} (n : ℕ) → (n % 2 ≡ 0 → A) → ((n % 2 ≡ 0 → ⊥) → A) → A
by_parity {A} n even odd = go (eqb (n % 2) 0) refl
  where
    go : (b : Bool) → eqb (n % 2) 0 ≡ b → A
    go true e = even (eqb-true _ _ e)
    go false e = odd (eqb-false _ _ e)

-- the bound does not matter once it is enough
halved_enough : (k l n : ℕ) → zero < n → n ≤ k → n ≤ l → halved k n ≡ halved l n
halved_enough zero l n p h h' = absurd (let z : ⊥ = omega arith in z)
halved_enough (suc k) zero n p h h' = absurd (let z : ⊥ = omega arith in z)
halved_enough (suc k) (suc l) n p h h' =
    by_parity n
    (λ (e : n % 2 ≡ 0).
    halved_even k n e
    ∙ halved_enough k l (n / 2) (omega arith) (omega arith) (omega arith)
    ∙ sym (halved_even l n e))
    (λ e. halved_odd (suc k) n e ∙ sym (halved_odd (suc l) n e))

-- one turn of the loop, and its end
pub odd_step : (n : ℕ) → zero < n → n % 2 ≡ 0 → odd_factors (n / 2) ≡ odd_factors n
unfolding odd_factors
odd_step zero p e = absurd (let z : ⊥ = omega arith in z)
odd_step (suc n) p e =
    halved_enough (suc n / 2) n (suc n / 2) (omega arith) (le_refl _) (omega arith) ∙ sym (halved_even n (suc n) e)

pub odd_done : (n : ℕ) → (n % 2 ≡ 0 → ⊥) → n ≡ odd_factors n
unfolding odd_factors
odd_done n e = sym (halved_odd n n e)

pub odd_zero : 0 ≡ odd_factors 0
unfolding odd_factors
odd_zero = refl

-- what is left is odd, and a power of two is missing
abbrev Left : ℕ → ℕ → Type 0
Left n m = (m % 2 ≡ 1) × ((j : ℕ) × (n ≡ m * 2 ^ j))

double : (n m : ℕ) → n % 2 ≡ 0 → Left (n / 2) m → Left n m
double n m e (o, (j, q)) = (
  o,
  (suc j, omega (arith, ap (λ (x : ℕ). m * x) (pow-suc 2 j) ∙ sym (mul_assoc m (2 ^ j) 2))),
)

left : (k n : ℕ) → zero < n → n ≤ k → Left n (halved k n)
left zero n p h = absurd (let z : ⊥ = omega arith in z)
left (suc k) n p h =
    by_parity n
    (λ (e : n % 2 ≡ 0). rw (halved_even k n e) (double n (halved k (n / 2)) e (left k (n / 2) (omega arith) (omega arith))))
    (λ (e : n % 2 ≡ 0 → ⊥). rw (halved_odd (suc k) n e) (odd_of e, (zero, sym (mul-one n))))
  where
    odd_of : (n % 2 ≡ 0 → ⊥) → n % 2 ≡ 1
    odd_of e = omega arith

pub odd_factors_are_left : OddFactorsAreLeft
unfolding odd_factors
odd_factors_are_left n p = left n n p (le_refl n)
