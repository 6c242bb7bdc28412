-- Signed arithmetic of the code: a difference of two steps at 32 bits, and a key at 64 bits, are exact.
use Prim.Native.Nat.{ℕ, zero, suc, ◌+◌, ◌*◌, ◌≤◌, ◌<◌}
use mathlib.Core.Path.{◌≡◌, refl, sym, ap₂, ◌∙◌, subst}
use lib.IntN.{ℤ, pos, negsuc, neg_ℤ, nat_abs, ◌+ℤ◌, ◌-ℤ◌, ◌*ℤ◌}
use lib.Signed.{nat_abs-le}
use mir.Syntax.{w16, w32, w64}
use mir.Val.{SFits, to_z, of_z}
use native.Mathlib.Nat.{mul-le-mul}
use native.Mathlib.Omega.{arith}
use Rattle.math.proofs.Integers.{up, down, rep_self, rep_pos, rep_minus, rep_add, abs_rep}
use Rattle.math.proofs.Signed.{read_back_lem, abs_fits}

-- ---- how large an integer is

abs_is : (z : ℤ) → nat_abs z ≡ up z + down z
abs_is (pos n) = omega arith
abs_is (negsuc n) = omega arith

abs_neg : (n : ℕ) → nat_abs (neg_ℤ (pos n)) ≡ n
abs_neg zero = refl
abs_neg (suc n) = refl

abs_add : (x y : ℤ) → nat_abs (x +ℤ y) ≤ nat_abs x + nat_abs y
abs_add x y = omega (arith, abs_rep (rep_add (rep_self x) (rep_self y)), abs_is x, abs_is y)

abs_mul : (x : ℤ) (n : ℕ) → nat_abs (x *ℤ pos n) ≡ nat_abs x * n
abs_mul (pos a) n = refl
abs_mul (negsuc a) n = abs_neg (suc a * n)

-- ---- what the code reads back

-- a step at a width that holds it
read_step : (z : ℤ) (n : ℕ) → z ≡ pos n → n < 65536 → to_z w32 (of_z w32 z) ≡ pos n
read_step z n e h = read_back_lem w32 z (subst (λ (x : ℤ). SFits w32 x) (sym e) (abs_fits w32 (pos n) (omega arith))) ∙ e

wide_step : (z : ℤ) (n : ℕ) → z ≡ pos n → n < 65536 → to_z w64 (of_z w64 z) ≡ pos n
wide_step z n e h = read_back_lem w64 z (subst (λ (x : ℤ). SFits w64 x) (sym e) (abs_fits w64 (pos n) (omega arith))) ∙ e

-- a 16-bit integer at 64 bits
wide_integer : (z x : ℤ) → z ≡ to_z w16 (of_z w16 x) → SFits w16 x → to_z w64 (of_z w64 z) ≡ x
wide_integer z x e f =
    let same : z ≡ x = e ∙ read_back_lem w16 x f in
    read_back_lem w64 z (subst (λ (y : ℤ). SFits w64 y) (sym same) (record { sfits = omega (arith, f.sfits) })) ∙ same

-- ---- sharpness

pub difference_is : (x y : ℤ) (p s : ℕ) → x ≡ pos p → y ≡ pos s → p < 65536 → s < 65536 → to_z w32 (of_z w32 (to_z w32 (of_z w32 x) -ℤ to_z w32 (of_z w32 y))) ≡ pos p -ℤ pos s
difference_is x y p s ex ey hp hs =
    rw (read_step x p ex hp, read_step y s ey hs)
    (read_back_lem w32 _ (abs_fits w32 (pos p -ℤ pos s) (omega (arith, abs_rep (rep_minus (rep_pos p) (rep_pos s))))))

-- ---- keys

-- an integer's product with a step
module _ (x : ℤ) (f : SFits w16 x) (p : ℕ) (hp : p < 65536) where
  times_size : nat_abs (x *ℤ pos p) ≤ 32768 * 65535
  times_size = rw abs_mul (mul-le-mul {n₂ = 32768} {m₂ = 65535} (nat_abs-le x f.sfits) (omega arith))

  times_is : (z n : ℤ) → z ≡ to_z w16 (of_z w16 x) → n ≡ pos p → to_z w64 (of_z w64 (to_z w64 (of_z w64 z) *ℤ to_z w64 (of_z w64 n))) ≡ x *ℤ pos p
  times_is z n ez en =
      rw (wide_integer z x ez f, wide_step n p en hp) (read_back_lem w64 _ (abs_fits w64 (x *ℤ pos p) (omega (arith, times_size))))

module _ (x y : ℤ) (f : SFits w16 x) (g : SFits w16 y) (p s : ℕ) (hp : p < 65536) (hs : s < 65536)
    (x' y' p' s' : ℤ) (ex : x' ≡ to_z w16 (of_z w16 x)) (ey : y' ≡ to_z w16 (of_z w16 y)) (ep : p' ≡ pos p) (es : s' ≡ pos s) where
  abbrev added : ℤ
  added =
      to_z w64 (of_z w64 (to_z w64 (of_z w64 x') *ℤ to_z w64 (of_z w64 p')))
      +ℤ to_z w64 (of_z w64 (to_z w64 (of_z w64 y') *ℤ to_z w64 (of_z w64 s')))

  added_is : added ≡ x *ℤ pos p +ℤ y *ℤ pos s
  added_is = ap₂ (λ (u v : ℤ). u +ℤ v) (times_is x f p hp x' p' ex ep) (times_is y g s hs y' s' ey es)

  pub key_fits : SFits w64 added
  key_fits =
      subst (λ (z : ℤ). SFits w64 z) (sym added_is)
      (abs_fits w64 (x *ℤ pos p +ℤ y *ℤ pos s) (omega (arith, abs_add (x *ℤ pos p) (y *ℤ pos s), times_size x f p hp, times_size y g s hs)))

  pub key_is : to_z w64 (of_z w64 added) ≡ x *ℤ pos p +ℤ y *ℤ pos s
  key_is = read_back_lem w64 _ key_fits ∙ added_is
