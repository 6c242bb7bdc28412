-- Euclid's number is the greatest common divisor: one step equation hides the bound on the steps, then induction along the steps.
use Prim.Native.Nat.{ℕ, zero, suc, ◌+◌, ◌%◌, ◌≤◌, ◌<◌, ◌∣◌, max}
use mathlib.Core.Path.{◌≡◌, refl, sym, ap, ◌∙◌, subst}
use native.Mathlib.Nat.{dvd-mod_iff, dvd_refl, dvd-zero, le_refl, mod-lt, zero-lt-suc, not-suc-le-zero, pos_of_dvd_of_pos, one-dvd, pos_of_ne-zero, max-eq_right}
use native.Mathlib.Omega.{arith}
use Rattle.math.specs.Gcd.{euclid, gcd, gcd_or_one, IsGcd, GcdIsGreatest, GcdOf}

-- the bound does not matter once it is enough
euclid_enough : (k l x y : ℕ) → y ≤ k → y ≤ l → euclid k x y ≡ euclid l x y
unfolding euclid
euclid_enough zero zero x y h h' = refl
euclid_enough zero (suc l) x zero h h' = refl
euclid_enough zero (suc l) x (suc y) h h' = absurd (not-suc-le-zero h)
euclid_enough (suc k) zero x zero h h' = refl
euclid_enough (suc k) zero x (suc y) h h' = absurd (not-suc-le-zero h')
euclid_enough (suc k) (suc l) x zero h h' = refl
euclid_enough (suc k) (suc l) x (suc y) h h' =
    euclid_enough k l (suc y) (x % suc y) (omega (arith, mod-lt x (zero-lt-suc y))) (omega (arith, mod-lt x (zero-lt-suc y)))

pub gcd_zero : (x : ℕ) → gcd x zero ≡ x
unfolding gcd euclid
gcd_zero x = refl

pub gcd_step : (x y : ℕ) → zero < y → gcd x y ≡ gcd y (x % y)
unfolding gcd euclid
gcd_step x zero h = absurd (not-suc-le-zero h)
gcd_step x (suc y) h =
    euclid_enough y (x % suc y) (suc y) (x % suc y) (omega (arith, mod-lt x (zero-lt-suc y))) (le_refl (x % suc y))

-- induction along Euclid's steps
pub euclid_induction : (Q : ℕ → ℕ → Type 0) → ((x : ℕ) → Q x zero) → ((x y : ℕ) → zero < y → Q y (x % y) → Q x y) → (x y : ℕ) → Q x y
euclid_induction Q base step x y = go y x y (le_refl y)
  where
    go : (k x y : ℕ) → y ≤ k → Q x y
    go zero x zero h = base x
    go zero x (suc y) h = absurd (not-suc-le-zero h)
    go (suc k) x zero h = base x
    go (suc k) x (suc y) h =
        step x (suc y) (zero-lt-suc y) (go k (suc y) (x % suc y) (omega (arith, mod-lt x (zero-lt-suc y))))

pub gcd_is : (x y : ℕ) → IsGcd x y (gcd x y)
gcd_is =
    euclid_induction (λ x y. IsGcd x y (gcd x y))
    (λ x. rw gcd_zero (record { left = dvd_refl x; right = dvd-zero x; greatest = λ k h l. h }))
    (λ x y h ih. rw gcd_step
    (record {
      left = (dvd-mod_iff _ ih.left).0 ih.right;
      right = ih.left;
      greatest = λ k kx ky. ih.greatest k ky ((dvd-mod_iff k ky).1 kx);
    }))

pub gcd_is_greatest : GcdIsGreatest
gcd_is_greatest = gcd_is

pub gcd_positive : (x y : ℕ) → zero < x → zero < gcd x y
gcd_positive x y h = pos_of_dvd_of_pos (gcd_is x y).left h

pub gcd_positive_right : (x y : ℕ) → zero < y → zero < gcd x y
gcd_positive_right x y h = pos_of_dvd_of_pos (gcd_is x y).right h

gcd_positive_sum : (x y : ℕ) → zero < x + y → zero < gcd x y
gcd_positive_sum zero y h = gcd_positive_right zero y (omega arith)
gcd_positive_sum (suc x) y h = gcd_positive (suc x) y (zero-lt-suc x)

-- where there is a divisor above 0, "0 and 0 give 1" changes nothing
pub gcd_or_one_lem : (x y : ℕ) → zero < gcd x y → gcd_or_one x y ≡ gcd x y
unfolding gcd_or_one
gcd_or_one_lem x y h = max-eq_right h

-- ---- `gcd_u16`, from the number a that its loop ends with

-- a above 0 is the greatest common divisor
pub gcd_found : (x y a : ℕ) → (a ≡ zero → ⊥) → gcd a zero ≡ gcd x y → GcdOf x y a
gcd_found x y a h e =
    let is : a ≡ gcd x y = sym (gcd_zero a) ∙ e in
    let positive : zero < gcd x y = subst (λ (z : ℕ). zero < z) is (pos_of_ne-zero h) in
    rw is
    (record {
      is = sym (gcd_or_one_lem x y positive);
      positive = positive;
      left = (gcd_is x y).left;
      right = (gcd_is x y).right;
      greatest = λ some. (gcd_is x y).greatest;
    })

-- a = 0 only for 0 and 0
pub gcd_none : (x y a : ℕ) → a ≡ zero → gcd a zero ≡ gcd x y → GcdOf x y 1
unfolding gcd_or_one
gcd_none x y a h e =
    let z : gcd x y ≡ zero = sym e ∙ gcd_zero a ∙ h in
    record {
      is = sym (ap (max 1) z);
      positive = zero-lt-suc zero;
      left = one-dvd x;
      right = one-dvd y;
      greatest = λ some. absurd (let w : ⊥ = omega (arith, gcd_positive_sum x y some) in w);
    }

-- ---- "0 and 0 give 1": of any two numbers it is above 0 and divides both

pub gcd_or_one_of : (x y : ℕ) → GcdOf x y (gcd_or_one x y)
unfolding gcd_or_one
gcd_or_one_of x y = go (gcd x y) refl
  where
    go : (g : ℕ) → gcd x y ≡ g → GcdOf x y (gcd_or_one x y)
    go zero e = subst (λ (r : ℕ). GcdOf x y r) (gcd_none x y zero refl (gcd_zero zero ∙ sym e)).is (gcd_none x y zero refl (gcd_zero zero ∙ sym e))
    go (suc g) e =
        let found = gcd_found x y (suc g) (λ h. absurd (let z : ⊥ = omega arith in z)) (gcd_zero (suc g) ∙ sym e) in
        subst (λ (r : ℕ). GcdOf x y r) found.is found

pub gcd_or_one_positive : (x y : ℕ) → zero < gcd_or_one x y
gcd_or_one_positive x y = (gcd_or_one_of x y).positive

pub gcd_or_one_left : (x y : ℕ) → gcd_or_one x y ∣ x
gcd_or_one_left x y = (gcd_or_one_of x y).left

pub gcd_or_one_right : (x y : ℕ) → gcd_or_one x y ∣ y
gcd_or_one_right x y = (gcd_or_one_of x y).right
