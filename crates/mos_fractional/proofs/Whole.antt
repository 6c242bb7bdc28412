-- A double less its whole part loses nothing, and with the double's sign it is the remainder by 1.
use mathlib.Core.Path.{◌≡◌, refl, ap, sym, ◌∙◌}
use Prim.Native.Nat.{ℕ, zero, suc, ◌+◌, ◌*◌, ◌-◌, ◌/◌, ◌^◌, ◌%◌, ◌≤◌, ◌<◌}
use native.Mathlib.Nat.{le_of_eq, le_of_lt, le_trans, lt_of_le_of_lt, lt_of_lt_of_le, mul_assoc, mul_right_comm, mul-pos, mul-one, add-mul, mul-lt-mul_of_pos_right, div-add-mod', div-le_self}
use native.Mathlib.Omega.{arith}
use mathlib.Core.Bool.{Bool, true, false, not, ◌&&◌, cond}
use lib.IntN.{ℤ, pos, negsuc}
use lib.Dec.{T, eqb, ltb, leb, lit<, ltb→lt}
use lib.Pow.{pow_pos, pow-add}
use borrow.Author.Tests.{le-ltb}
use lib.Ieee.{Float, nan, inf, fin, binary64, up, down, odd, units, round, sum, add, neg, sub, rem, fits, is_nan}
use lib.Ieee.Back.{round_whole}
use lib.Ieee.Exact.{HasValue, round_exact}
use lib.Ieee.Fits.{down_pos, and_r}
use lib.Ieee.Scale.{round_same}
use Rattle.std.specs.Float.{float_with_sign, is_sign_negative, trunc, round_with}
use Rattle.mos_fractional.specs.Fractional.{one, is_finite}
use Rattle.mos_fractional.proofs.Remainders.{rem_is, digits}

-- ---- the whole part of a double is a double
-- the format's upper end
under : (s : Bool) (m k : ℕ) → T (fits binary64 (fin s m (pos k))) → m * 2 ^ k < 2 ^ 1024
unfolding fits
under s zero k h = lt_of_le_of_lt (let z : 0 * 2 ^ k ≤ 0 = omega arith in z) (lit< tt)
under s (suc m) k h =
    lt_of_lt_of_le
    (ltb→lt (suc m * 2 ^ k) (2 ^ 1024 * 1)
    (and_r (eqb (suc m % 2) 1 && ltb (suc m) (2 ^ 53) && leb 1 (2 ^ 1074)) (ltb (suc m * 2 ^ k) (2 ^ 1024 * 1)) h))
    (le_of_eq (mul-one (2 ^ 1024)))

-- a whole number's, in units of the smallest value
scaled : (m k l : ℕ) → m * 2 ^ k * 2 ^ l ≡ m * 2 ^ (k + l)
scaled m k l = mul_assoc m (2 ^ k) (2 ^ l) ∙ ap (λ (x : ℕ). m * x) (sym (pow-add 2 k l))

whole_part : (s : Bool) (m : ℕ) (e : ℤ) → T (fits binary64 (fin s m e))
    → HasValue (round binary64 s (m * up e / down e) 1) s (m * up e / down e) 1
whole_part s m (pos k) h =
    let w : m * 2 ^ k / 1 ≡ m * 2 ^ k = omega arith in
    round_exact binary64 s (m * 2 ^ k / 1) 1 m (k + 1074) (lit< tt) (digits s m (pos k) h)
    (lt_of_le_of_lt (le_of_eq (sym (scaled m k 1074)))
    (lt_of_lt_of_le (mul-lt-mul_of_pos_right (under s m k h) (pow_pos 1074)) (le_of_eq (sym (pow-add 2 1024 1074)))))
    (ap (λ (x : ℕ). x * 2 ^ 1074) w ∙ scaled m k 1074 ∙ sym (mul-one (m * 2 ^ (k + 1074))))
whole_part s m (negsuc k) h =
    round_whole binary64 s (m * 1 / 2 ^ suc k)
    (le_trans (div-le_self (m * 1) (2 ^ suc k)) (le_trans (le_of_eq (mul-one m)) (le_of_lt (digits s m (negsuc k) h))))

-- ---- a rounded fraction with another sign
odd_with : (d : ℕ) (s t : Bool) (q k l : ℕ) → float_with_sign s (odd d t q k l) ≡ odd d s q k l
unfolding odd float_with_sign
odd_with d s t zero k l = refl
odd_with d s t (suc q) k l = refl

units_with : (s t : Bool) (q k : ℕ) → float_with_sign s (units binary64 t q k) ≡ units binary64 s q k
unfolding units float_with_sign
units_with s t q k = go (ltb (q * 2 ^ k) (2 ^ 2098))
  where
    go : (b : Bool) → float_with_sign s (cond b (odd 54 t q k 1074) (inf t)) ≡ cond b (odd 54 s q k 1074) (inf s)
    go true = odd_with 54 s t q k 1074
    go false = refl

round_with_sign : (s t : Bool) (a c : ℕ) → float_with_sign s (round binary64 t a c) ≡ round binary64 s a c
unfolding round
round_with_sign s t a c = units_with s t _ _

-- ---- the difference
-- a sum of unlike signs, the first no smaller
take_off : (s : Bool) (a b c : ℕ) → b ≤ a → float_with_sign s (sum binary64 s a (not s) b c) ≡ round binary64 s (a - b) c
unfolding sum
take_off true a b c h = simp (le-ltb a b h, round_with_sign)
take_off false a b c h = simp (le-ltb a b h, round_with_sign)

module _ (m : ℕ) (e : ℤ) (n : ℕ) (d : ℤ) (v : n * up d * 1 ≡ m * up e / down e * down d) where
  parts : m * up e * down d ≡ n * up d * down e + m * up e % down e * down d
  parts =
      ap (λ (x : ℕ). x * down d) (sym (div-add-mod' (m * up e) (down e)))
      ∙ add-mul (m * up e / down e * down e) (m * up e % down e) (down d)
      ∙ ap (λ (x : ℕ). x + m * up e % down e * down d)
      (mul_right_comm (m * up e / down e) (down e) (down d) ∙ ap (λ (x : ℕ). x * down e) (sym v ∙ mul-one (n * up d)))

  no_smaller : n * up d * down e ≤ m * up e * down d
  no_smaller = omega (arith, parts)

  left : m * up e * down d - n * up d * down e ≡ m * up e % down e * down d
  left = omega (arith, parts)

  same_fraction : (s : Bool)
      → round binary64 s (m * up e * down d - n * up d * down e) (down e * down d) ≡ round binary64 s (m * up e % down e) (down e)
  same_fraction s =
      round_same binary64 s (m * up e * down d - n * up d * down e) (down e * down d) (m * up e % down e) (down e)
      (mul-pos (down_pos e) (down_pos d)) (down_pos e)
      (ap (λ (x : ℕ). x * down e) left ∙ mul_right_comm (m * up e % down e) (down d) (down e)
      ∙ mul_assoc (m * up e % down e) (down e) (down d))

less_whole : (s : Bool) (m : ℕ) (e : ℤ) (y : Float) → HasValue y s (m * up e / down e) 1
    → float_with_sign s (sub binary64 (fin s m e) y) ≡ rem binary64 (fin s m e) one
unfolding sub add neg
less_whole s m e nan v = absurd v
less_whole s m e (inf t) v = absurd v
less_whole s m e (fin t n d) v =
    ap (λ (u : Bool). float_with_sign s (sum binary64 s (m * up e * down d) (not u) (n * up d * down e) (down e * down d))) v.0
    ∙ take_off s (m * up e * down d) (n * up d * down e) (down e * down d) (no_smaller m e n d v.1)
    ∙ same_fraction m e n d v.1 s
    ∙ sym (rem_is s m e)

pub rest_is_rem : (x : Float) → is_finite x ≡ true → T (fits binary64 x)
    → float_with_sign (is_sign_negative x) (sub binary64 x (trunc binary64 x)) ≡ rem binary64 x one
unfolding is_sign_negative round_with
rest_is_rem nan f h = absurd (let z : ◌≡◌ {A = ℕ} 0 1 = cc in omega arith)
rest_is_rem (inf s) f h = absurd (let z : ◌≡◌ {A = ℕ} 0 1 = cc in omega arith)
rest_is_rem (fin false m e) f h = less_whole false m e (round binary64 false (m * up e / down e) 1) (whole_part false m e h)
rest_is_rem (fin true m e) f h = less_whole true m e (round binary64 true (m * up e / down e) 1) (whole_part true m e h)

pub finite_number : (x : Float) → is_finite x ≡ true → T (not (is_nan x))
unfolding is_nan
finite_number nan f = absurd (let z : ◌≡◌ {A = ℕ} 0 1 = cc in omega arith)
finite_number (inf s) f = tt
finite_number (fin s m e) f = tt
