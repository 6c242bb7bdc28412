-- What T, layers × n, bounds. A layer holds at most a key for each letter, so there are at most N × T keys. A key has at most as many
-- signs as its cycle has layers, and fewer stars than n, so at most T of both.
use Prim.Native.Nat.{ℕ, zero, suc, ◌+◌, ◌*◌, ◌≤◌, ◌<◌}
use mathlib.Core.Path.{◌≡◌, refl, ap}
use mathlib.Core.Bool.{Bool, true, false}
use native.Mathlib.Nat.{mul-zero, mul-one, mul-suc, suc-mul, mul_assoc, mul-le-mul_left, mul-le-mul_right}
use native.Mathlib.Decide.{dec_lt}
use native.Mathlib.Omega.{arith}
use lib.ListN.{length}
use Rattle.answer.specs.Choice.{pick}
use Rattle.mos.specs.declared.Mos.{Mos}
use Rattle.pergen.specs.Pergen.{cycles, reduced}
use Rattle.pergen.specs.Spelling.{stars_of}
use Rattle.pergen.proofs.Inverse.{period_is, cycles_positive}
use lib.IntN.{ℤ}
use Rattle.pergen.proofs.Keys.{key_cycle_below}
use Rattle.pergen.proofs.DegreePlaces.{stars_are, few_signs}
use Rattle.mos_layers.specs.Layers.{layer_sizes}
use Rattle.mos_layers.proofs.Theorems.{enough_layers}
use Rattle.layout.specs.declared.IsomorphicLayout.{IsomorphicLayout}
use Rattle.layout.specs.Layouts.{Layout, Accepted, accidentals_in}
use Rattle.layout.proofs.Finding.{Parts, accepted}
use Rattle.layout.proofs.PatternShape.{PatternShape, pattern_shape}
use Rattle.layout_layers.specs.KeyLayers.{equalized, layer_count, count_in}
use Rattle.layout_layers.specs.Theorems.{KeysByCount, SignsByCount}
use Rattle.layout_layers.proofs.Theorems.{equal_steps}

-- numbers above 0 have a sum of at most their product and 1
pub sum_by_product : (a b : ℕ) → 0 < a → 0 < b → a + b ≤ a * b + 1
sum_by_product zero b h k = absurd (let z : ⊥ = omega arith in z)
sum_by_product (suc a) b h k = omega (arith, suc-mul a b, mul-le-mul_left a k, mul-one a)

module _ (r : IsomorphicLayout) (l : Layout) (ok : Accepted r l) where
  abbrev P : ℕ
  P = l.octave

  abbrev G : ℕ
  G = l.generator

  abbrev m : Mos
  m = l.pattern

  abbrev N : ℕ
  N = l.letters

  -- the layers of one cycle
  abbrev layers : ℕ
  layers = pick (equalized m) 2 (length (layer_sizes m))

  parts : Parts l
  parts = accepted r l ok

  shape : PatternShape l
  shape = pattern_shape l parts

  layers_cover : reduced P G ≤ N * layers
  layers_cover = by (equalized m) refl
    where
      by : (b : Bool) → equalized m ≡ b → reduced P G ≤ N * pick b 2 (length (layer_sizes m))
      by true t = omega (arith, equal_steps r l ok t)
      by false t =
          omega (arith, enough_layers m, shape.reduced_is, ap (λ (k : ℕ). k * length (layer_sizes m)) shape.letters)

  some_layers : 0 < layers
  some_layers = by (dec_lt 0 layers)
    where
      by : Dec (0 < layers) → 0 < layers
      by (yes h) = h
      by (no h) =
          let none : N * layers ≡ N * 0 = ap (λ (k : ℕ). N * k) (let e : layers ≡ 0 = omega arith in e) in
          absurd (let z : ⊥ = omega (arith, none, mul-zero N, layers_cover, shape.at_least_five, shape.enough_keys) in z)

  keys_most : P ≤ N * count_in l
  unfolding layer_count
  keys_most =
      omega (arith, period_is P G parts.positive, mul-le-mul_right (cycles P G) layers_cover, mul_assoc N layers (cycles P G))

  -- N × signs is below R + N, and R at most N × layers
  signs_few : (signs : ℕ) → N * signs < reduced P G + N → signs ≤ layers
  signs_few signs h = by (dec_lt layers signs)
    where
      by : Dec (layers < signs) → signs ≤ layers
      by (yes more) = absurd (let z : ⊥ = omega (arith, layers_cover, mul-le-mul_left N more, mul-suc N layers) in z)
      by (no few) = omega arith

  signs_most : (key : ℤ) → (accidentals_in l key).sharp_count + (accidentals_in l key).flat_count + stars_of (accidentals_in l key).cycle
      ≤ count_in l
  unfolding accidentals_in layer_count
  signs_most key =
      omega (
        arith,
        signs_few _ (few_signs P G N l.start key parts.positive shape.start_below shape.enough_keys),
        stars_are P G N l.start key parts.positive shape.start_below,
        key_cycle_below P G parts.positive key,
        sum_by_product layers (cycles P G) some_layers (cycles_positive P G parts.positive),
      )

pub keys_by_count : KeysByCount
keys_by_count r l ok = keys_most r l ok

pub signs_by_count : SignsByCount
signs_by_count r l ok key = signs_most r l ok key
