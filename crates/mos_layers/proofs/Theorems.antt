-- The layers sum to the divided size, and the divisor of the steps divides the size.
use Prim.Native.Nat.{ℕ, ◌+◌, ◌*◌, ◌/◌, ◌<◌, ◌≤◌, ◌∣◌}
use mathlib.Core.Path.{◌≡◌, refl, ap, ap₂, sym, ◌∙◌}
use mathlib.Core.Bool.{true}
use native.Mathlib.Nat.{div-eq_of_eq-mul_left, add-mul, mul_assoc, div-mul_cancel, div-le_self, div-one, mul-le-mul_left}
use native.Mathlib.Omega.{arith}
use Rattle.math.specs.Gcd.{gcd_or_one}
use Rattle.math.proofs.Gcd.{gcd_or_one_positive, gcd_or_one_left, gcd_or_one_right}
use Rattle.mos.specs.declared.Mos.{Mos}
use Rattle.mos.specs.Patterns.{primaries, secondaries, primary, secondary, size_of, is_pattern, cycles_of, reduced_size_of}
use Rattle.mos.proofs.Sizes.{pattern_fits}
use Rattle.mos_layers.specs.Layers.{all_sizes, layer_sizes, layers_of}
use Rattle.mos_layers.specs.Theorems.{LayerSizesSum, LayersFillTheReducedSize, EnoughLayers}
use Rattle.mos_layers.proofs.Sizes.{sum_drop, length_numbered}
use Rattle.mos_layers.proofs.Plans.{all_sum, all_within}

divided_sum : (a b p s g : ℕ) → 0 < g → g ∣ p → g ∣ s → (a * p + b * s) / g ≡ a * (p / g) + b * (s / g)
divided_sum a b p s g h dp ds =
    div-eq_of_eq-mul_left h
    (sym
    (add-mul (a * (p / g)) (b * (s / g)) g
    ∙ ap₂ (λ (x y : ℕ). x + y)
    (mul_assoc a (p / g) g ∙ ap (λ (n : ℕ). a * n) (div-mul_cancel g dp))
    (mul_assoc b (s / g) g ∙ ap (λ (n : ℕ). b * n) (div-mul_cancel g ds))))

size_is : (m : Mos) → size_of m ≡ primaries m * primary m + secondaries m * secondary m
unfolding size_of
size_is m = refl

-- the reduced size, from the divided steps
pub reduced_is : (m : Mos) → reduced_size_of m ≡ primaries m * (primary m / cycles_of m) + secondaries m * (secondary m / cycles_of m)
unfolding reduced_size_of cycles_of size_of
reduced_is m =
    divided_sum (primaries m) (secondaries m) (primary m) (secondary m) (gcd_or_one (primary m) (secondary m)) (gcd_or_one_positive (primary m) (secondary m)) (gcd_or_one_left (primary m) (secondary m)) (gcd_or_one_right (primary m) (secondary m))

pub layer_sizes_sum : LayerSizesSum
unfolding layer_sizes
layer_sizes_sum m =
    sum_drop (all_sizes (primaries m) (secondaries m) (primary m / cycles_of m) (secondary m / cycles_of m))
    ∙ all_sum (primaries m) (secondaries m) (primary m / cycles_of m) (secondary m / cycles_of m)
    ∙ sym (reduced_is m)

pub layers_fill_the_reduced_size : LayersFillTheReducedSize
unfolding layers_of
layers_fill_the_reduced_size m = length_numbered 0 (layer_sizes m) ∙ layer_sizes_sum m

pub enough_layers : EnoughLayers
unfolding layer_sizes
enough_layers m =
    let x = primary m / cycles_of m in
    let y = secondary m / cycles_of m in
    omega (arith, reduced_is m, all_sum (primaries m) (secondaries m) x y, all_within (primaries m) (secondaries m) x y)

-- dividing by 1
pub divided_by_one : (x g : ℕ) → g ≡ 1 → x ≡ x / g
divided_by_one x g e = sym (ap (λ (n : ℕ). x / n) e ∙ div-one x)

-- the divisor that the code has
pub code_cycles : (m : Mos) (g : ℕ) → g ≡ gcd_or_one (primary m) (secondary m) → g ≡ cycles_of m
unfolding cycles_of
code_cycles m g e = e

pub cycles_above : (m : Mos) → 0 < cycles_of m
unfolding cycles_of
cycles_above m = gcd_or_one_positive (primary m) (secondary m)

module _ (m : Mos) (g : ℕ) (is : g ≡ cycles_of m) where
  pub divisor_above : 0 < g
  divisor_above = rw is (cycles_above m)

  module _ (x y : ℕ) (ex : x ≡ primary m / g) (ey : y ≡ secondary m / g) where
    -- the divided steps stay a pattern
    pub divided_fits : is_pattern m ≡ true → primaries m * x + secondaries m * y ≤ 65535
    divided_fits f =
        let h : primaries m * x ≤ primaries m * primary m = mul-le-mul_left (primaries m) (omega (arith, div-le_self (primary m) g)) in
        let k : secondaries m * y ≤ secondaries m * secondary m = mul-le-mul_left (secondaries m) (omega (arith, div-le_self (secondary m) g)) in
        omega (arith, size_is m, pattern_fits m f)

    -- the same layers, said with that divisor
    pub cycles_layers : all_sizes (primaries m) (secondaries m) x y
        ≡ all_sizes (primaries m) (secondaries m) (primary m / cycles_of m) (secondary m / cycles_of m)
    cycles_layers =
        ap₂ (all_sizes (primaries m) (secondaries m)) (ex ∙ ap (λ (n : ℕ). primary m / n) is) (ey ∙ ap (λ (n : ℕ). secondary m / n) is)
