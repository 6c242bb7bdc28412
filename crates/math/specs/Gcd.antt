-- The greatest common divisor (document 01, "Port order" 1 and "Pergen and spelling").
use Rattle.std.specs.Prelude.{ℕ, zero, suc, ◌+◌, ◌*◌, ◌/◌, ◌%◌, ◌<◌, max, ◌≡◌}
use Rattle.std.specs.Int.{◌∣◌}
use Rattle.math.specs.declared.Fraction.{Fraction}

-- Euclid's algorithm. The first argument bounds its steps: the second number falls with each.
unfoldable pub euclid : ℕ → ℕ → ℕ → ℕ
euclid zero x y = x
euclid (suc steps) x zero = x
euclid (suc steps) x (suc y) = euclid steps (suc y) (x % suc y)

-- The greatest common divisor of two numbers; of 0 and 0 it is 0.
unfoldable pub gcd : ℕ → ℕ → ℕ
unfolding euclid
gcd x y = euclid y x y

-- `gcd_u16`: "0 and 0 give 1".
unfoldable pub gcd_or_one : ℕ → ℕ → ℕ
unfolding gcd
gcd_or_one x y = max 1 (gcd x y)

-- g divides both, and every common divisor divides g.
pub record IsGcd (x y g : ℕ) : Type 0 where
  pub left : g ∣ x
  pub right : g ∣ y
  pub greatest : (k : ℕ) → k ∣ x → k ∣ y → k ∣ g

-- Theorem: Euclid's number is the greatest common divisor, of any two numbers.
abbrev pub GcdIsGreatest : Type 0
GcdIsGreatest = (x y : ℕ) → IsGcd x y (gcd x y)

-- What `gcd_u16` promises of r.
pub record GcdOf (x y r : ℕ) : Type 0 where
  pub is : r ≡ gcd_or_one x y
  pub positive : 0 < r
  pub left : r ∣ x
  pub right : r ∣ y
  pub greatest : 0 < x + y → (k : ℕ) → k ∣ x → k ∣ y → k ∣ r

-- A fraction in lowest terms: both numbers divided by their greatest common divisor.
unfoldable pub lowest_terms : ℕ → ℕ → Fraction
unfolding gcd_or_one
lowest_terms x y = record { numer = x / gcd_or_one x y; denom = y / gcd_or_one x y }

-- Theorem: the fraction is the same, by the cross product, and its two numbers have no common divisor but 1. Only 0 over 0, which stays, has
-- others; a number above 0 over 0 becomes 1 over 0, and 0 over it 0 over 1.
pub record LowestTermsAreLowest : Type 0 where
  pub same : (x y : ℕ) → (lowest_terms x y).numer * y ≡ x * (lowest_terms x y).denom
  pub lowest : (x y : ℕ) → 0 < x + y → (k : ℕ) → k ∣ (lowest_terms x y).numer → k ∣ (lowest_terms x y).denom → k ≡ 1
  pub zeros : lowest_terms 0 0 ≡ record { numer = 0; denom = 0 }
  pub over_zero : (x : ℕ) → 0 < x → lowest_terms x 0 ≡ record { numer = 1; denom = 0 }
  pub of_zero : (y : ℕ) → 0 < y → lowest_terms 0 y ≡ record { numer = 0; denom = 1 }
