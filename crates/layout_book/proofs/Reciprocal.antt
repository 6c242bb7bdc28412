-- A quotient by a product: with w = 2³¹ / n the number x × (w + 1) is (x / n) × 2³¹ and less than 2³¹ more, for the sizes that are here.
use Prim.Native.Nat.{ℕ, ◌+◌, ◌*◌, ◌-◌, ◌/◌, ◌%◌, ◌≤◌, ◌<◌}
use mathlib.Core.Path.{◌≡◌, sym, ap, ◌∙◌}
use native.Mathlib.Nat.{mod-lt, div-add-mod', add-mul, mul-add, mul-one, mul_assoc, mul_comm, mul-le-mul, le_refl}
use native.Mathlib.Omega.{arith}
use lib.Arith.{digits_div}

module _ (n x : ℕ) (some : 0 < n) (few : n ≤ 9) (small : x ≤ 65535) where
  abbrev whole : ℕ
  whole = 2147483648

  abbrev w : ℕ
  w = whole / n

  abbrev left : ℕ
  left = whole % n

  abbrev q : ℕ
  q = x / n

  abbrev r : ℕ
  r = x % n

  whole_is : w * n + left ≡ whole
  whole_is = div-add-mod' whole n

  -- x (w + 1) + q left = q 2³¹ + q n + r (w + 1)
  product : x * (w + 1) + q * left ≡ q * whole + q * n + r * (w + 1)
  product =
      let e : x * (w + 1) ≡ (q * n + r) * (w + 1) = ap (λ (y : ℕ). y * (w + 1)) (sym (div-add-mod' x n)) in
      let f : q * whole ≡ q * (w * n + left) = ap (λ (y : ℕ). q * y) (sym whole_is) in
      let g : n * (w + 1) ≡ w * n + n = mul-add n w 1 ∙ omega (arith, mul_comm n w, mul-one n) in
      omega (
        arith,
        e,
        f,
        add-mul (q * n) r (w + 1),
        mul_assoc q n (w + 1) ∙ ap (λ (y : ℕ). q * y) g ∙ mul-add q (w * n) n,
        mul-add q (w * n) left,
      )

  -- 2³¹ / n is large
  large : 200000000 ≤ w
  large =
      let a : w * n ≤ w * 9 = mul-le-mul {n₂ = w} {m₂ = 9} (le_refl w) few in
      omega (arith, a, whole_is, mod-lt whole some)

  left_small : q * left ≤ q * n
  left_small = mul-le-mul {n₂ = q} {m₂ = n} (le_refl q) (let a : left ≤ n = omega (arith, mod-lt whole some) in a)

  rest_small : q * n + r * (w + 1) - q * left < whole
  rest_small =
      let a : (r + 1) * (w + 1) ≤ n * (w + 1) = mul-le-mul {n₂ = n} {m₂ = w + 1} (let b : r + 1 ≤ n = omega (arith, mod-lt x some) in b) (le_refl (w + 1)) in
      omega (
        arith,
        a,
        add-mul r 1 (w + 1),
        mul-add n w 1,
        mul-one n,
        mul_comm n w,
        whole_is,
        large,
        div-add-mod' x n,
        small,
        few,
        (let b : 1 * (w + 1) ≡ w + 1 = omega arith in b),
      )

  pub quotient_by : x * (w + 1) / whole ≡ x / n
  quotient_by =
      ap (λ (y : ℕ). y / whole) (let e : x * (w + 1) ≡ q * whole + (q * n + r * (w + 1) - q * left) = omega (arith, product, left_small) in e)
      ∙ digits_div q rest_small

  -- and the product fits 64 bits
  pub product_small : x * (w + 1) ≤ 65535 * 2147483649
  product_small =
      mul-le-mul {n₂ = 65535} {m₂ = 2147483649} small
      (let a : w * 1 ≤ w * n = mul-le-mul {n₂ = w} {m₂ = n} (le_refl w) some in omega (arith, a, mul-one w, whole_is))
