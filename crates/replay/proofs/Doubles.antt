-- Bits that are no number's, and doubles that are none. Assumes nothing.
use mathlib.Core.Path.{◌≡◌, sym, ◌∙◌, subst}
use mathlib.Core.Bool.{Bool, true, not}
use Prim.Native.Nat.{ℕ, ◌%◌, ◌≤◌}
use native.Mathlib.Omega.{arith}
use lib.Dec.{T}
use lib.Ieee.{Float, nan, inf, fin, binary64, eq, is_nan, nan_bits}
use lib.Ieee.Bits.{nan_bits_above}
use borrow.Author.Tests.{le-ltb}

-- bits that are not above an infinity's, the sign aside, are a number's
pub bits_of_number : (n : ℕ) → n % 9223372036854775808 ≤ 9218868437227405312 → T (not (nan_bits binary64 n))
bits_of_number n h = subst (λ (b : Bool). T (not b)) (sym (nan_bits_above binary64 n ∙ le-ltb _ _ h)) tt

-- what equals itself is a number
pub number : (x : Float) → eq x x ≡ true → T (not (is_nan x))
unfolding eq is_nan
number nan h = absurd (let z : ◌≡◌ {A = ℕ} 0 1 = cc in omega arith)
number (inf s) h = tt
number (fin s m e) h = tt
