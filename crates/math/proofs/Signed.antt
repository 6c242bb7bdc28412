-- Signed machine numbers, for every width. The logic reads a signed number back from its bits, `to_z w (of_z w z)`:
-- what a test of the sign, `-1 - z`, the casts and `divide` then give.
use Prim.Native.Nat.{ℕ, zero, suc, ◌-◌, ◌/◌, ◌%◌, ◌≤◌, ◌<◌, ◌^◌}
use mathlib.Core.Path.{◌≡◌, refl, sym, ap, ◌∙◌, subst}
use mathlib.Core.Bool.{Bool, true, false, not}
use lib.Dec.{T}
use lib.IntN.{ℤ, pos, negsuc, nat_abs, ◌-ℤ◌}
use lib.Signed.{mag, lt_z, non_neg}
use mir.Syntax.{Width}
use mir.Val.{SFits, Fits, to_z, of_z, hbits}
use mir.ValLaws.{to_z-of_z, to_z_pos, half_full}
use native.Mathlib.Nat.{lt_of_le_of_lt, div-le_self, le_refl, le-suc}
use native.Mathlib.Omega.{arith}
use Rattle.math.specs.Division.{Divided}
use Rattle.math.proofs.Integers.{rep_self, rep_pos, rep_minus, rep_agree}
use Rattle.math.proofs.Division.{remainder_law}

never : {A : Type 0} → ◌≡◌ {A = Bool} false true → A
never e = absurd (subst (λ (b : Bool). T (not b)) e tt)

-- what the test of the sign tells
negative_is : (z : ℤ) → lt_z z (pos zero) ≡ true → z ≡ negsuc (mag z)
negative_is (pos n) e = never (sym (lib.Dec.leb-suc-zero n) ∙ e)
negative_is (negsuc n) e = refl

positive_is : (z : ℤ) → lt_z z (pos zero) ≡ false → z ≡ pos (mag z)
positive_is (pos n) e = refl
positive_is (negsuc n) e = never (sym e)

-- −1 − z turns −1 − a into a, and a into −1 − a
mirror_negative : (a : ℕ) → negsuc 0 -ℤ negsuc a ≡ pos a
mirror_negative a = rep_agree (rep_minus (rep_self (negsuc 0)) (rep_self (negsuc a))) (rep_pos a) (omega arith)

mirror_positive : (a : ℕ) → negsuc 0 -ℤ pos a ≡ negsuc a
mirror_positive a = rep_agree (rep_minus (rep_self (negsuc 0)) (rep_pos a)) (rep_self (negsuc a)) (omega arith)

-- an unsigned number below the half of its range, as a signed one
pub small_fits : (w : Width) (a : ℕ) → a < 2 ^ hbits w → SFits w (pos a)
small_fits w a h = record { sfits = h }

mag_abs : (z : ℤ) → mag z ≤ nat_abs z
mag_abs (pos n) = le_refl n
mag_abs (negsuc n) = le-suc n

pub abs_fits : (w : Width) (z : ℤ) → nat_abs z < 2 ^ hbits w → SFits w z
abs_fits w z h = record { sfits = lt_of_le_of_lt (mag_abs z) h }

module _ (w : Width) (z : ℤ) (f : SFits w z) where
  pub read_back_lem : to_z w (of_z w z) ≡ z
  read_back_lem = to_z-of_z w z f

  -- a quotient of the magnitude stays in range
  quotient_small : (d : ℕ) → mag z / d < 2 ^ hbits w
  quotient_small d = lt_of_le_of_lt (div-le_self (mag z) d) f.sfits

  module _ (t : lt_z (to_z w (of_z w z)) (pos zero) ≡ true) where
    z_is : z ≡ negsuc (mag z)
    z_is = negative_is z (ap (λ (y : ℤ). lt_z y (pos zero)) (sym read_back_lem) ∙ t)

    -- the mirror image
    abbrev mirror : ℤ
    mirror = negsuc 0 -ℤ to_z w (of_z w z)

    mirror_is : mirror ≡ pos (mag z)
    mirror_is = ap (λ (y : ℤ). negsuc 0 -ℤ y) (read_back_lem ∙ z_is) ∙ mirror_negative (mag z)

    pub mirror_fits : SFits w mirror
    mirror_fits = subst (λ (y : ℤ). SFits w y) (sym mirror_is) (small_fits w (mag z) f.sfits)

    mirror_read : to_z w (of_z w mirror) ≡ pos (mag z)
    mirror_read = to_z-of_z w mirror mirror_fits ∙ mirror_is

    pub mirror_cast : T (non_neg (to_z w (of_z w mirror))) × Fits w (nat_abs (to_z w (of_z w mirror)))
    mirror_cast =
        subst (λ (y : ℤ). T (non_neg y) × Fits w (nat_abs y)) (sym mirror_read) (tt, record { fits = half_full w f.sfits })

    abs_is : mag z ≡ nat_abs (to_z w (of_z w mirror))
    abs_is = sym (ap nat_abs mirror_read)

    -- the number, by its mirror image
    pub by_mirror : z ≡ negsuc (nat_abs (to_z w (of_z w mirror)))
    by_mirror = z_is ∙ ap negsuc abs_is

    -- one more than the mirror image has room in the whole range
    pub mirror_below_half : nat_abs (to_z w (of_z w mirror)) < 2 ^ hbits w
    mirror_below_half = subst (λ (a : ℕ). a < 2 ^ hbits w) abs_is f.sfits

    pub mirror_quotient_fits : (d : ℕ) → SFits w (pos (nat_abs (to_z w (of_z w mirror)) / d))
    mirror_quotient_fits d =
        subst (λ (a : ℕ). SFits w (pos (a / d))) abs_is (small_fits w (mag z / d) (quotient_small d))

    -- the quotient, mirrored back
    abbrev back : ℕ → ℤ
    back a = negsuc 0 -ℤ to_z w a

    back_is : (d : ℕ) → back (mag z / d) ≡ negsuc (mag z / d)
    back_is d = ap (λ (y : ℤ). negsuc 0 -ℤ y) (to_z_pos w (mag z / d) (quotient_small d)) ∙ mirror_positive (mag z / d)

    back_small : (d : ℕ) → SFits w (back (mag z / d))
    back_small d = subst (λ (y : ℤ). SFits w y) (sym (back_is d)) (record { sfits = quotient_small d })

    pub back_fits : (d : ℕ) → SFits w (back (nat_abs (to_z w (of_z w mirror)) / d))
    back_fits d = subst (λ (a : ℕ). SFits w (back (a / d))) abs_is (back_small d)

    pub divided_negative : (d : ℕ) → zero < d
        → Divided z d (to_z w (of_z w (back (nat_abs (to_z w (of_z w mirror)) / d)))) (d - 1 - nat_abs (to_z w (of_z w mirror)) % d)
    divided_negative d h =
        subst (λ (a : ℕ). Divided z d (to_z w (of_z w (back (a / d)))) (d - 1 - a % d)) abs_is
        (subst (λ (q : ℤ). Divided z d q (d - 1 - mag z % d)) (sym (to_z-of_z w _ (back_small d) ∙ back_is d))
        (subst (λ (r : ℕ). Divided z d (negsuc (mag z / d)) r)
        (let e : d - suc (mag z % d) ≡ d - 1 - mag z % d = omega arith in e)
        (subst (λ (y : ℤ). Divided y d (negsuc (mag z / d)) (d - suc (mag z % d))) (sym z_is)
        (remainder_law.divides (negsuc (mag z)) d h))))

  module _ (t : lt_z (to_z w (of_z w z)) (pos zero) ≡ false) where
    z_is_pos : z ≡ pos (mag z)
    z_is_pos = positive_is z (ap (λ (y : ℤ). lt_z y (pos zero)) (sym read_back_lem) ∙ t)

    pub positive_cast : T (non_neg (to_z w (of_z w z))) × Fits w (nat_abs (to_z w (of_z w z)))
    positive_cast =
        subst (λ (y : ℤ). T (non_neg y) × Fits w (nat_abs y)) (sym (read_back_lem ∙ z_is_pos)) (tt, record { fits = half_full w f.sfits })

    abs_is_pos : mag z ≡ nat_abs (to_z w (of_z w z))
    abs_is_pos = sym (ap nat_abs (read_back_lem ∙ z_is_pos))

    -- the number, by its cast
    pub by_cast : z ≡ pos (nat_abs (to_z w (of_z w z)))
    by_cast = z_is_pos ∙ ap pos abs_is_pos

    pub positive_quotient_fits : (d : ℕ) → SFits w (pos (nat_abs (to_z w (of_z w z)) / d))
    positive_quotient_fits d =
        subst (λ (a : ℕ). SFits w (pos (a / d))) abs_is_pos (small_fits w (mag z / d) (quotient_small d))

    pub divided_positive : (d : ℕ) → zero < d
        → Divided z d (to_z w (nat_abs (to_z w (of_z w z)) / d)) (nat_abs (to_z w (of_z w z)) % d)
    divided_positive d h =
        subst (λ (a : ℕ). Divided z d (to_z w (a / d)) (a % d)) abs_is_pos
        (subst (λ (q : ℤ). Divided z d q (mag z % d)) (sym (to_z_pos w (mag z / d) (quotient_small d)))
        (subst (λ (y : ℤ). Divided y d (pos (mag z / d)) (mag z % d)) (sym z_is_pos)
        (remainder_law.divides (pos (mag z)) d h)))
