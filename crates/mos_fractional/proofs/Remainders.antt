-- The remainder of a double by 1 loses nothing: it is the exact remainder, with the dividend's sign.
use mathlib.Core.Path.{◌≡◌, refl, ap, sym, subst, ◌∙◌}
use Prim.Native.Nat.{ℕ, zero, suc, ◌*◌, ◌-◌, ◌^◌, ◌%◌, ◌≤◌, ◌<◌}
use native.Mathlib.Nat.{le_refl, le_of_eq, le_trans, lt_of_le_of_lt, lt_of_lt_of_le, not-le_of_lt, mul_assoc, mul-one, one-mul, mul-le-mul, mul-lt-mul_of_pos_right, mod-le}
use native.Mathlib.Omega.{arith}
use mathlib.Core.Bool.{Bool, true, false, ◌&&◌}
use lib.IntN.{ℤ, pos, negsuc}
use lib.Dec.{T, eqb, ltb, leb, lit<, lit≤, leb→le, ltb→lt, eqb→eq}
use lib.Pow.{pow_pos, pow-add, pow_mono, pow-lt}
use borrow.Author.Tests.{leb-true, leb-false}
use lib.Ieee.{Float, fin, binary64, up, down, round, rem, fits}
use lib.Ieee.Exact.{HasValue, round_exact}
use lib.Ieee.Fits.{and_l, and_r}
use lib.Ieee.Digits.{back}
use Rattle.mos_fractional.specs.Fractional.{one}

pub rem_is : (s : Bool) (m : ℕ) (e : ℤ) → rem binary64 (fin s m e) one ≡ round binary64 s (m * up e % down e) (down e)
unfolding rem
rem_is s m e = simp (mul-one, one-mul)

-- 2 ^ n is at most 2 ^ 1074 only up to n = 1074
exponent : (n : ℕ) → 2 ^ n ≤ 2 ^ 1074 → n ≤ 1074
exponent n h = go (leb n 1074) refl
  where
    go : (b : Bool) → leb n 1074 ≡ b → n ≤ 1074
    go true e = leb-true n 1074 e
    go false e = absurd (not-le_of_lt (pow-lt (leb-false n 1074 e)) h)

-- a remainder of fewer than 54 digits, over a power of two that the format has
small : (s : Bool) (r n : ℕ) → r < 2 ^ 53 → n ≤ 1074 → HasValue (round binary64 s r (2 ^ n)) s r (2 ^ n)
small s r n h l =
    round_exact binary64 s r (2 ^ n) r (1074 - n) (pow_pos n) h
    (lt_of_lt_of_le (mul-lt-mul_of_pos_right h (pow_pos (1074 - n)))
    (le_trans (mul-le-mul (le_refl (2 ^ 53)) (pow_mono (let k : 1074 - n ≤ 1074 = omega arith in k))) (lit≤ tt)))
    (ap (λ (x : ℕ). r * x) (ap (λ (x : ℕ). 2 ^ x) (sym (back 1074 n l)) ∙ pow-add 2 (1074 - n) n)
    ∙ sym (mul_assoc r (2 ^ (1074 - n)) (2 ^ n)))

-- the significand's bound, and the exponent's
pub digits : (s : Bool) (m : ℕ) (e : ℤ) → T (fits binary64 (fin s m e)) → m < 2 ^ 53
unfolding fits
digits s zero e h = lit< tt
digits s (suc m) e h =
    ltb→lt (suc m) (2 ^ 53)
    (and_r (eqb (suc m % 2) 1) (ltb (suc m) (2 ^ 53))
    (and_l (eqb (suc m % 2) 1 && ltb (suc m) (2 ^ 53)) (leb (down e) (2 ^ 1074))
    (and_l (eqb (suc m % 2) 1 && ltb (suc m) (2 ^ 53) && leb (down e) (2 ^ 1074)) (ltb (suc m * up e) (2 ^ 1024 * down e)) h)))

places : (s : Bool) (m : ℕ) (e : ℤ) → T (fits binary64 (fin s (suc m) e)) → down e ≤ 2 ^ 1074
unfolding fits
places s m e h =
    leb→le (down e) (2 ^ 1074)
    (and_r (eqb (suc m % 2) 1 && ltb (suc m) (2 ^ 53)) (leb (down e) (2 ^ 1074))
    (and_l (eqb (suc m % 2) 1 && ltb (suc m) (2 ^ 53) && leb (down e) (2 ^ 1074)) (ltb (suc m * up e) (2 ^ 1024 * down e)) h))

zero_form : (s : Bool) (e : ℤ) → T (fits binary64 (fin s zero e)) → up e * down e ≡ 1
unfolding fits
zero_form s e h = eqb→eq (up e * down e) 1 h

pub rem_exact : (s : Bool) (m : ℕ) (e : ℤ) → T (fits binary64 (fin s m e))
    → HasValue (rem binary64 (fin s m e) one) s (m * up e % down e) (down e)
rem_exact s m (pos k) h =
    subst (λ (z : Float). HasValue z s (m * 2 ^ k % 1) 1) (sym (rem_is s m (pos k)))
    (small s (m * 2 ^ k % 1) 0 (lt_of_le_of_lt (let y : m * 2 ^ k % 1 ≤ 0 = omega arith in y) (lit< tt)) (lit≤ tt))
rem_exact s zero (negsuc k) h =
    subst (λ (z : Float). HasValue z s (0 * 1 % 2 ^ suc k) (2 ^ suc k)) (sym (rem_is s zero (negsuc k)))
    (small s (0 * 1 % 2 ^ suc k) (suc k) (lt_of_le_of_lt (mod-le (0 * 1) (2 ^ suc k)) (lit< tt))
    (exponent (suc k) (le_trans (le_of_eq (sym (one-mul (2 ^ suc k)) ∙ zero_form s (negsuc k) h)) (pow_pos 1074))))
rem_exact s (suc m) (negsuc k) h =
    subst (λ (z : Float). HasValue z s (suc m * 1 % 2 ^ suc k) (2 ^ suc k)) (sym (rem_is s (suc m) (negsuc k)))
    (small s (suc m * 1 % 2 ^ suc k) (suc k)
    (lt_of_le_of_lt (mod-le (suc m * 1) (2 ^ suc k))
    (subst (λ (x : ℕ). x < 2 ^ 53) (sym (mul-one (suc m))) (digits s (suc m) (negsuc k) h)))
    (exponent (suc k) (places s m (negsuc k) h)))
