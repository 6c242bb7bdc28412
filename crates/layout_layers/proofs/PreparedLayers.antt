-- The layers of a prepared layout, by what the code computes: their sizes, the layer of a key, and how many numbers there are.
use Prim.Native.Nat.{ℕ, ◌+◌, ◌*◌, ◌/◌, ◌%◌, ◌≤◌, ◌<◌}
use mathlib.Core.Path.{◌≡◌, sym, ap, ap₂, subst, ◌∙◌}
use mathlib.Core.Bool.{true, false}
use mathlib.Core.List.{List}
use native.Mathlib.Nat.{one-mul, le_of_dvd, le-div_iff_mul-le, mod-lt}
use native.Mathlib.Omega.{arith}
use lib.ListN.{length, get_or}
use borrow.Author.Tests.{eq-eqb, ne_eqb}
use Rattle.math.proofs.Gcd.{gcd_or_one_positive, gcd_or_one_left, gcd_or_one_right}
use Rattle.mos.specs.declared.Mos.{Mos}
use Rattle.mos.specs.Patterns.{primaries, secondaries, primary, secondary, cycles_of}
use Rattle.pergen.specs.Parts.{At, solved_of}
use Rattle.pergen.specs.declared.euclid.Solved.{Solved}
use Rattle.pergen.specs.declared.stepping.Key.{Key}
use Rattle.pergen.proofs.CarriedWalk.{at_degree_below}
use Rattle.mos_layers.specs.Layers.{all_sizes, drop_empty, numbered, layer_sizes, layers_of}
use Rattle.mos_layers.proofs.Theorems.{reduced_is}
use Rattle.layout.specs.Layouts.{Layout, cycles_in, reduced_in}
use Rattle.layout.specs.Parts.{layout_in, Ready}
use Rattle.layout.specs.declared.prepared.Prepared.{Prepared}
use Rattle.layout.proofs.PatternShape.{PatternShape, pattern_shape}
use Rattle.layout.proofs.Readiness.{parts_ready, ready_walkable, key_degree_lem, key_cycle_lem}
use Rattle.layout_layers.specs.declared.keys.Sizes.{Sizes}
use Rattle.layout_layers.specs.KeyLayers.{equalized, alternate_layer, listed_layer, layer_of, layer_number, layer_count, layer_in, number_in, count_in}
use Rattle.layout_layers.specs.Parts.{sizes_in, Countable, SizesOf, layer_at, alternate_in}
use Rattle.layout_layers.proofs.Theorems.{counts_fit, numbers_are_below}

-- ---- is the scale equalized?

pub is_equalized : (m : Mos) → primary m ≡ secondary m → true ≡ equalized m
is_equalized m e = sym (eq-eqb (primary m) (secondary m) e)

pub not_equalized : (m : Mos) → (primary m ≡ secondary m → ⊥) → false ≡ equalized m
not_equalized m e = sym (ne_eqb (primary m) (secondary m) e)

module _ (p : Prepared) (h : Ready p) where
  abbrev l : Layout
  l = layout_in p

  abbrev m : Mos
  m = l.pattern

  abbrev n : ℕ
  n = p.solved.num_cycles

  abbrev R : ℕ
  R = p.solved.reduced_period

  shape : PatternShape l
  shape = pattern_shape l (parts_ready p h)

  -- ---- cycles and reduced period

  pub cycles_ready : n ≡ cycles_in l
  unfolding solved_of
  cycles_ready = ap (λ (x : Solved). x.num_cycles) h.solved_is

  pub reduced_ready : R ≡ reduced_in l
  unfolding solved_of
  reduced_ready = ap (λ (x : Solved). x.reduced_period) h.solved_is

  pub some_cycles : 0 < n
  some_cycles = (ready_walkable p h).some_cycles

  divisor_ready : n ≡ cycles_of m
  divisor_ready = cycles_ready ∙ sym shape.cycles_are

  -- ---- the sizes of the layers

  divided_above : (x g : ℕ) → 0 < g → g ≤ x → 0 < x / g
  divided_above x g k b = (le-div_iff_mul-le k).1 (subst (λ (y : ℕ). y ≤ x) (sym (one-mul g)) b)

  steps_above : (0 < primary m / cycles_of m) × (0 < secondary m / cycles_of m)
  unfolding cycles_of
  steps_above =
      let some = gcd_or_one_positive (primary m) (secondary m) in (
        divided_above (primary m) (cycles_of m) some (le_of_dvd shape.primary_above (gcd_or_one_left (primary m) (secondary m))),
        divided_above (secondary m) (cycles_of m) some (le_of_dvd shape.secondary_above (gcd_or_one_right (primary m) (secondary m))),
      )

  module _ (x y : ℕ) (first : x ≡ primary m / n) (second : y ≡ secondary m / n) where
    first_is : x ≡ primary m / cycles_of m
    first_is = first ∙ ap (λ (k : ℕ). primary m / k) divisor_ready

    second_is : y ≡ secondary m / cycles_of m
    second_is = second ∙ ap (λ (k : ℕ). secondary m / k) divisor_ready

    pub sizes_asked : (0 < primaries m) × (0 < secondaries m) × (0 < x) × (0 < y) × (primaries m * x + secondaries m * y ≡ R)
    sizes_asked = (
      shape.some_primaries,
      shape.some_secondaries,
      subst (λ (i : ℕ). 0 < i) (sym first_is) steps_above.0,
      subst (λ (i : ℕ). 0 < i) (sym second_is) steps_above.1,
      ap₂ (λ (i j : ℕ). primaries m * i + secondaries m * j) first_is second_is ∙ sym (reduced_is m) ∙ shape.reduced_is ∙ sym reduced_ready,
    )

    pub sizes_made : (s : Sizes) → Countable s × (sizes_in s ≡ all_sizes (primaries m) (secondaries m) x y) × (s.places ≡ R) → SizesOf l s
    unfolding layer_sizes
    sizes_made s made =
        record {
          countable = made.0;
          sizes_are = ap drop_empty (made.1 ∙ ap₂ (all_sizes (primaries m) (secondaries m)) first_is second_is);
          places_are = made.2 ∙ reduced_ready;
        }

  -- ---- the layer of a key

  pub start_below : p.found.start < R
  start_below = omega (arith, shape.start_below, shape.enough_keys, reduced_ready)

  pub offset_asked : (0 < n) × (p.found.start ≤ 8)
  offset_asked = (some_cycles, omega (arith, shape.start_below, shape.at_most_nine))

  pub alternate_asked : (0 < p.found.num_letters) × (secondaries m ≤ 9)
  alternate_asked = (omega (arith, shape.at_least_five), omega (arith, shape.letters, shape.at_most_nine))

  pub offset_is : (offset : ℕ) → offset ≡ p.found.generator * p.found.start / n → offset ≡ l.generator * l.start / cycles_in l
  offset_is offset e = e ∙ ap (λ (k : ℕ). p.found.generator * p.found.start / k) cycles_ready

  module _ (k : Key) (at : At p.solved k) where
    pub key_place : (p.found.start < R) × (k.degree < R)
    key_place = (start_below, at_degree_below p.solved (ready_walkable p h) k at)

    pub layer_alternates : true ≡ equalized m → (r : ℕ) → r ≡ alternate_in l (k.number / n) → r ≡ layer_in l k.number
    unfolding layer_of alternate_layer
    layer_alternates t r e = simp (sym t) (e ∙ ap (alternate_in l) (ap (λ (i : ℕ). k.number / i) cycles_ready))

    module _ (place : ℕ) (is : place ≡ (p.found.start + k.degree) % R) (s : Sizes) (of : SizesOf l s) where
      pub place_inside : place < s.places
      place_inside =
          omega (arith, is, of.places_are, reduced_ready, mod-lt (p.found.start + k.degree) (let q : 0 < R = omega (arith, start_below) in q))

      pub layer_listed : false ≡ equalized m → (r : ℕ) → r ≡ layer_at s place → r ≡ layer_in l k.number
      unfolding layer_of listed_layer layers_of layer_at
      layer_listed t r e =
          simp (sym t)
          (e
          ∙ ap₂ (λ (sizes : List ℕ) (i : ℕ). get_or (numbered 0 sizes) i 0) of.sizes_are
          (is ∙ ap₂ (λ (d i : ℕ). (p.found.start + d) % i) (key_degree_lem p h k at) reduced_ready))

    -- the number, which fits 16 bits
    module _ (fits : p.found.octave ≤ 65535) (layer : ℕ) (e : layer ≡ layer_in l k.number) where
      pub number_made : layer * n + k.cycle ≡ number_in l k.number
      unfolding layer_number
      number_made = ap₂ (λ (i j : ℕ). i + j) (ap₂ (λ (i j : ℕ). i * j) e cycles_ready) (key_cycle_lem p h k at)

      pub number_fits : layer * n + k.cycle ≤ 65535
      number_fits =
          let accepted = h.laid.accepted in
          omega (
            arith,
            number_made,
            numbers_are_below h.laid.caller l accepted k.number,
            counts_fit h.laid.caller l accepted,
            fits,
          )

  -- ---- how many numbers

  pub total_alternates : true ≡ equalized m → 2 * n ≡ count_in l
  unfolding layer_count
  total_alternates t = simp (sym t) (ap (λ (k : ℕ). 2 * k) cycles_ready)

  pub total_listed : false ≡ equalized m → (s : Sizes) → SizesOf l s → (count : ℕ) → count ≡ length (drop_empty (sizes_in s)) → count * n ≡ count_in l
  unfolding layer_count
  total_listed t s of count e = simp (sym t) (ap₂ (λ (i j : ℕ). i * j) (e ∙ ap length of.sizes_are) cycles_ready)

  pub total_fits : p.found.octave ≤ 65535 → (total : ℕ) → total ≡ count_in l → total ≤ 65535
  total_fits fits total e = omega (arith, e, counts_fit h.laid.caller l h.laid.accepted, fits)
