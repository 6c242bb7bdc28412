-- Division of any integer by a number above 0, with a remainder that is never negative
-- (document 01, "What the contracts settle" 4 and "Mistakes to rule out": (6 − 10) mod 12 is 8).
use Rattle.std.specs.Prelude.{ℕ, suc, ◌-◌, ◌/◌, ◌%◌, ◌<◌, ◌≡◌, ℤ, pos, negsuc, ◌+ℤ◌, ◌*ℤ◌}

-- `negsuc a` is −1 − a: the mirror image of a, and so are its quotient and remainder.
abbrev pub quotient : ℤ → ℕ → ℤ
quotient (pos a) d = pos (a / d)
quotient (negsuc a) d = negsuc (a / d)

abbrev pub remainder : ℤ → ℕ → ℕ
remainder (pos a) d = a % d
remainder (negsuc a) d = d - suc (a % d)

-- z is d × q + r, with r not negative and below d.
pub record Divided (z : ℤ) (d : ℕ) (q : ℤ) (r : ℕ) : Type 0 where
  pub sum : z ≡ pos d *ℤ q +ℤ pos r
  pub below : r < d

-- Theorem, the remainder law, for every integer and every divisor, hence for every width of machine number:
-- quotient and remainder divide z by d, and no other two numbers do.
pub record RemainderLaw : Type 0 where
  pub divides : (z : ℤ) (d : ℕ) → 0 < d → Divided z d (quotient z d) (remainder z d)
  pub only : (z : ℤ) (d : ℕ) (q : ℤ) (r : ℕ) → Divided z d q r → (q ≡ quotient z d) × (r ≡ remainder z d)

-- "x and y differ by a multiple of d".
abbrev pub Apart : ℕ → ℤ → ℤ → Type 0
Apart d x y = (k : ℤ) × (x ≡ y +ℤ pos d *ℤ k)
