-- The five numbers tell the sizes of the definition: the longer step's count is left over in the layers that are not full, the sharp layers
-- in reverse are those runs in reverse, and all sizes together are the pattern's size.
use Prim.Native.Nat.{ℕ, suc, ◌+◌, ◌*◌, ◌-◌, ◌/◌, ◌%◌, ◌≤◌, ◌<◌}
use mathlib.Core.Path.{◌≡◌, refl, sym, ap, ap₂, ◌∙◌}
use mathlib.Core.List.{List, ◌∷◌, ◌++◌, append-nil, reverse}
use native.Mathlib.Nat.{mul-one, mul_comm, mul-le-mul_left, min-eq_left, min-eq_right, sub-eq-zero_of_le}
use native.Mathlib.Omega.{arith}
use lib.ListN.{replicate}
use Rattle.mos_layers.specs.Layers.{holding, sharps, all_sizes}
use Rattle.mos_layers.specs.Theorems.{sum}
use Rattle.mos_layers.proofs.Plans.{holding_both, sharps_reversed, all_sum}
use Rattle.layout_layers.specs.declared.keys.Sizes.{Sizes}
use Rattle.layout_layers.specs.Parts.{sharp_places, enharmonic_in, sizes_in, Countable}
use Rattle.layout_layers.proofs.LayerPlaces.{sum_around}

module _ (a b x y places : ℕ) (some-a : 0 < a) (some-b : 0 < b) (some-x : 0 < x) (some-y : 0 < y) (all : a * x + b * y ≡ places)
    (fits : places ≤ 65535) where
  -- how many sharp layers hold each count
  abbrev h : ℕ
  h = (x - 1) / 2

  abbrev k : ℕ
  k = (y - 1) / 2

  -- layers for both, and more for one
  second_longer : h ≤ k → sharps a b h k ≡ replicate h (a + b) ++ replicate (k - h) b
  unfolding sharps
  second_longer l = simp (min-eq_left l, sub-eq-zero_of_le l)

  first_longer : k ≤ h → sharps a b h k ≡ replicate k (a + b) ++ replicate (h - k) a
  unfolding sharps
  first_longer l =
      simp (min-eq_right l, sub-eq-zero_of_le l) (ap (λ (z : List ℕ). replicate k (a + b) ++ z) (append-nil (replicate (h - k) a)))

  second_reversed : h ≤ k → reverse (sharps a b h k) ≡ replicate (k - h) b ++ replicate h (a + b)
  second_reversed l = sharps_reversed a b h k ∙ simp (min-eq_left l, sub-eq-zero_of_le l)

  first_reversed : k ≤ h → reverse (sharps a b h k) ≡ replicate (h - k) a ++ replicate k (a + b)
  first_reversed l = sharps_reversed a b h k ∙ simp (min-eq_right l, sub-eq-zero_of_le l)

  -- what the code adds
  pub counts_fit : (a + b ≤ 65535) × (x + 1 ≤ 65535) × (y + 1 ≤ 65535)
  counts_fit =
      let i = mul-le-mul_left a some-x in
      let j = mul-le-mul_left b some-y in
      let i₂ = mul-le-mul_left x some-a in
      let j₂ = mul-le-mul_left y some-b in (
        omega (arith, i, j, mul-one a, mul-one b),
        omega (arith, i₂, j, mul-one x, mul-one b, mul_comm x a),
        omega (arith, i, j₂, mul-one a, mul-one y, mul_comm y b),
      )

  abbrev with : (full rest partial : ℕ) → Sizes
  with full rest partial = record { letters = a + b; full = full; rest = rest; partial = partial; places = places }

  module _ (full rest partial : ℕ) (some_full : 0 < full) (some_rest : 0 < rest)
      (up : sharps a b h k ≡ replicate (full - 1) (a + b) ++ replicate partial rest)
      (down : reverse (sharps a b h k) ≡ replicate partial rest ++ replicate (full - 1) (a + b)) where
    abbrev s : Sizes
    s = with full rest partial

    abbrev odd : ℕ
    odd = holding a b ((x - 1) % 2) ((y - 1) % 2)

    abbrev around : ℕ → List ℕ
    around middle =
        (replicate full (a + b) ++ replicate partial rest) ++ (middle ∷ (replicate partial rest ++ replicate (full - 1) (a + b)))

    -- the natural layer goes before the full ones
    laid_out : around odd ≡ all_sizes a b x y
    unfolding all_sizes
    laid_out =
        let natural : a + b ≡ holding a b x y = holding_both a b x y (λ z. omega arith) (λ z. omega arith) in
        let front : replicate full (a + b) ++ replicate partial rest ≡ (a + b) ∷ (replicate (full - 1) (a + b) ++ replicate partial rest)
        = ap (λ (i : ℕ). replicate i (a + b) ++ replicate partial rest) (let q : full ≡ suc (full - 1) = omega arith in q) in
        ap₂ (λ (u v : List ℕ). u ++ (odd ∷ v)) (front ∙ ap (λ (u : List ℕ). (a + b) ∷ u) (sym up)) (sym down)
        ∙ ap (λ (i : ℕ). i ∷ (sharps a b h k ++ (odd ∷ reverse (sharps a b h k)))) natural

    all_places : places ≡ sharp_places s + (odd + (sharp_places s - (a + b)))
    all_places = sym all ∙ sym (all_sum a b x y) ∙ ap sum (sym laid_out) ∙ sum_around s some_full odd

    pub sizes_by : Countable s × (sizes_in s ≡ all_sizes a b x y) × (places ≡ places)
    sizes_by = (
      record {
        some_full = some_full;
        some_letters = omega arith;
        some_rest = some_rest;
        within = omega (arith, all_places);
        places_fit = fits;
      },
      ap around (let q : enharmonic_in s ≡ odd = omega (arith, all_places) in q) ∙ laid_out,
      refl,
    )

  abbrev first : ℕ
  first = (x + 1) / 2

  abbrev second : ℕ
  second = (y + 1) / 2

  pub sizes_second : first < second
      → Countable (with first b (second - first)) × (sizes_in (with first b (second - first)) ≡ all_sizes a b x y) × (places ≡ places)
  sizes_second l =
      let o : h ≤ k = omega arith in
      let i : h ≡ first - 1 = omega arith in
      let j : k - h ≡ second - first = omega arith in
      sizes_by first b (second - first) (omega arith) some-b
      (second_longer o ∙ ap₂ (λ (m n : ℕ). replicate m (a + b) ++ replicate n b) i j)
      (second_reversed o ∙ ap₂ (λ (m n : ℕ). replicate n b ++ replicate m (a + b)) i j)

  pub sizes_first : second ≤ first
      → Countable (with second a (first - second)) × (sizes_in (with second a (first - second)) ≡ all_sizes a b x y) × (places ≡ places)
  sizes_first l =
      let o : k ≤ h = omega arith in
      let i : k ≡ second - 1 = omega arith in
      let j : h - k ≡ first - second = omega arith in
      sizes_by second a (first - second) (omega arith) some-a
      (first_longer o ∙ ap₂ (λ (m n : ℕ). replicate m (a + b) ++ replicate n a) i j)
      (first_reversed o ∙ ap₂ (λ (m n : ℕ). replicate n a ++ replicate m (a + b)) i j)
