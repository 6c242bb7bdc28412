-- Every key's number is below T, and T below P: the layers of one cycle are fewer than its keys. Each number is met, by the key whose
-- degree leads to the layer's first place on the chain.
use Prim.Native.Nat.{ℕ, zero, suc, ◌+◌, ◌*◌, ◌-◌, ◌/◌, ◌%◌, ◌≤◌, ◌<◌, ◌∣◌}
use mathlib.Core.Path.{◌≡◌, refl, sym, ap, ap₂, subst, ◌∙◌}
use mathlib.Core.Bool.{Bool, true, false}
use mathlib.Core.List.{List, [], ◌∷◌, ◌++◌, reverse}
use native.Mathlib.Nat.{mod-lt, mod-eq_of_lt, add-mod-mod, add-mod_right, add-zero, add_comm, suc-mul, zero-div, zero-mod, zero-add, mul-zero, zero-mul, one-mul, div-add-mod', div-lt_iff_lt-mul, mul-le-mul_right, le-div_iff_mul-le, le_of_dvd, dvd_refl, dvd_antisymm, add-mul, mul_assoc, mul_comm, mul-div_cancel, add-mul-div_right, add-mul-mod_self_right, add-mul-mod_self_left}
use native.Mathlib.Omega.{arith}
use lib.ListN.{length, get_or, replicate, length-replicate, get_or-replicate, get_or-append}
use Rattle.answer.specs.Choice.{pick}
use Rattle.text.proofs.Joined.{length_joined_each}
use lib.Dec.{eqb}
use borrow.Author.Tests.{eqb-true}
use Rattle.math.specs.Gcd.{gcd_or_one}
use Rattle.math.proofs.Gcd.{gcd_is, gcd_positive, gcd_or_one_lem, gcd_or_one_positive, gcd_or_one_left, gcd_or_one_right}
use Rattle.mos.specs.declared.Mos.{Mos}
use Rattle.mos.specs.Patterns.{primaries, secondaries, primary, secondary, count_of, size_of, cycles_of, reduced_size_of}
use Rattle.pergen.specs.Pergen.{cycles, reduced, degree, cycle, inverse}
use Rattle.pergen.proofs.Inverse.{period_is, cycles_positive, reduced_positive}
use Rattle.pergen.proofs.Keys.{cycle_below, formulas_agree}
use Rattle.pergen.proofs.CarriedWalk.{key_with, key_with_below, key_with_cycle, key_with_degree}
use Rattle.mos_layers.specs.Layers.{holding, sharps, all_sizes, drop_empty, numbered, layer_sizes, layers_of}
use Rattle.mos_layers.specs.Theorems.{sum}
use Rattle.mos_layers.proofs.Sizes.{few, sum_drop}
use Rattle.mos_layers.proofs.Plans.{holding_both}
use Rattle.mos_layers.proofs.Theorems.{layer_sizes_sum}
use Rattle.layout.specs.declared.IsomorphicLayout.{IsomorphicLayout}
use Rattle.layout.specs.Layouts.{Layout, Accepted}
use Rattle.layout.proofs.Finding.{Parts, accepted}
use Rattle.layout.proofs.PatternShape.{PatternShape, pattern_shape}
use Rattle.layout_layers.specs.KeyLayers.{equalized, entry_count, listed_layer, alternating, alternate_layer, layer_of, layer_number, key_layers, layer_count, number_in, count_in}
use Rattle.layout_layers.specs.Theorems.{CountsFit, NumbersAreBelow, KeyZeroIsNatural, EachNumberIsMet, EntriesAreCounted, NumbersRepeat, LayersFromZeroOn}
use Rattle.layout_layers.proofs.RunPlaces.{numbered_below, numbered_met}
use Rattle.layout_layers.proofs.PlanLaws.{alternating_below, alternating_same, pick_below, block_fits}

pub entries_are_counted : EntriesAreCounted
unfolding key_layers
entries_are_counted l =
    length_joined_each (λ i. number_in l i ∷ []) 1 (λ i. refl) (entry_count l.octave l.pattern) ∙ one-mul _

-- behind the first layer, each takes a key at least
few_behind : (size : ℕ) (rest : List ℕ) → 0 < size → length (drop_empty (size ∷ rest)) + size ≤ sum (drop_empty (size ∷ rest)) + 1
few_behind zero rest h = absurd (let z : ⊥ = omega arith in z)
few_behind (suc size) rest h = omega (arith, few rest, sum_drop rest)

pick_fewer : (b : Bool) (u v m : ℕ) → u + 3 ≤ m → v + 3 ≤ m → pick b u v + 3 ≤ m
pick_fewer true u v m h k = h
pick_fewer false u v m h k = k

-- two octaves on, the parity is the same
alternating_again : (N s h q : ℕ) → 0 < N → alternating N s h (q + 2 * N) ≡ alternating N s h q
unfolding alternating
alternating_again N s h q some =
    let on : (q + 2 * N + h) * s ≡ (q + h) * s + 2 * s * N
    = ap (λ (k : ℕ). k * s) (let e : q + 2 * N + h ≡ q + h + 2 * N = omega arith in e)
    ∙ add-mul (q + h) (2 * N) s
    ∙ ap (λ (k : ℕ). (q + h) * s + k) (mul_assoc 2 N s ∙ ap (λ (k : ℕ). 2 * k) (mul_comm N s) ∙ sym (mul_assoc 2 s N)) in
    ap (λ (k : ℕ). pick (eqb (h * s / N % 2) (k % 2)) 0 1)
    (ap (λ (k : ℕ). k / N) on ∙ add-mul-div_right ((q + h) * s) (2 * s) some)
    ∙ ap (λ (k : ℕ). pick (eqb (h * s / N % 2) k) 0 1) (add-mul-mod_self_left ((q + h) * s / N) 2 s)

module _ (r : IsomorphicLayout) (l : Layout) (ok : Accepted r l) where
  abbrev P : ℕ
  P = l.octave

  abbrev G : ℕ
  G = l.generator

  abbrev m : Mos
  m = l.pattern

  parts : Parts l
  parts = accepted r l ok

  shape : PatternShape l
  shape = pattern_shape l parts

  -- a place of the list
  place_in : (i : ℕ) → (l.start + degree P G i) % reduced P G < sum (layer_sizes m)
  place_in i =
      subst (λ (k : ℕ). (l.start + degree P G i) % reduced P G < k) (sym (layer_sizes_sum m ∙ shape.reduced_is)) (mod-lt _ (reduced_positive P G parts.positive))

  layer_in_lem : (i : ℕ) → layer_of P G l.letters l.start m i < pick (equalized m) 2 (length (layer_sizes m))
  unfolding layer_of alternate_layer listed_layer layers_of
  layer_in_lem i =
      pick_below (equalized m) _ _ 2 (length (layer_sizes m)) (alternating_below l.letters (secondaries m) (G * l.start / cycles P G) (i / cycles P G))
      (subst (λ (k : ℕ). get_or (numbered 0 (layer_sizes m)) ((l.start + degree P G i) % reduced P G) 0 < k) (zero-add (length (layer_sizes m)))
      (numbered_below 0 (layer_sizes m) ((l.start + degree P G i) % reduced P G) (place_in i)))

  below : (i : ℕ) → number_in l i < count_in l
  unfolding layer_number layer_count
  below i =
      omega (
        arith,
        block_fits (layer_of P G l.letters l.start m i) (pick (equalized m) 2 (length (layer_sizes m))) (cycles P G) (layer_in_lem i),
        cycle_below P G parts.positive i,
      )

  -- ---- key 0

  divided : (x : ℕ) → 0 < x → (g : ℕ) → 0 < g → g ≤ x → 0 < x / g
  divided x h g k b = (le-div_iff_mul-le k).1 (subst (λ (y : ℕ). y ≤ x) (sym (one-mul g)) b)

  natural_size : holding (primaries m) (secondaries m) (primary m / cycles_of m) (secondary m / cycles_of m) ≡ l.letters
  unfolding cycles_of
  natural_size =
      let g = cycles_of m in
      let pos = gcd_or_one_positive (primary m) (secondary m) in
      let p = divided (primary m) shape.primary_above g pos (le_of_dvd shape.primary_above (gcd_or_one_left (primary m) (secondary m))) in
      let s = divided (secondary m) shape.secondary_above g pos (le_of_dvd shape.secondary_above (gcd_or_one_right (primary m) (secondary m))) in
      sym (holding_both (primaries m) (secondaries m) (primary m / g) (secondary m / g) (λ e. omega arith) (λ e. omega arith)) ∙ shape.letters

  layers_few : length (layer_sizes m) + l.letters ≤ reduced P G + 1
  unfolding layer_sizes all_sizes
  layers_few =
      let a = primaries m in
      let b = secondaries m in
      let x = primary m / cycles_of m in
      let y = secondary m / cycles_of m in
      omega (
        arith,
        few_behind (holding a b x y)
            (sharps a b ((x - 1) / 2) ((y - 1) / 2) ++ (holding a b ((x - 1) % 2) ((y - 1) % 2) ∷ reverse (sharps a b ((x - 1) / 2) ((y - 1) / 2))))
            (omega (arith, natural_size, shape.at_least_five)),
        natural_size,
        layer_sizes_sum m,
        shape.reduced_is,
      )

  fits : count_in l + 3 ≤ P
  unfolding layer_count
  fits =
      let n = cycles P G in
      let layers = pick (equalized m) 2 (length (layer_sizes m)) in
      let most : layers + 3 ≤ reduced P G
      = pick_fewer (equalized m) 2 (length (layer_sizes m)) (reduced P G) (omega (arith, shape.at_least_five, shape.enough_keys)) (omega (arith, layers_few, shape.at_least_five)) in
      omega (arith, mul-le-mul_right n most, add-mul layers 3 n, period_is P G parts.positive, cycles_positive P G parts.positive)

  front : (size : ℕ) (rest : List ℕ) (place : ℕ) → place < size → get_or (numbered 0 (drop_empty (size ∷ rest))) place 0 ≡ 0
  front zero rest place h = absurd (let z : ⊥ = omega arith in z)
  front (suc size) rest place h =
      get_or-append (replicate (suc size) 0) (numbered 1 (drop_empty rest)) 0 place (omega (arith, length-replicate {A = ℕ} (suc size) 0))
      ∙ get_or-replicate (suc size) place 0 0 h

  -- the letters' places on the chain are in the natural layer
  pub letters_natural : (place : ℕ) → place < l.letters → get_or (layers_of m) place 0 ≡ 0
  unfolding layers_of layer_sizes all_sizes
  letters_natural place h =
      let a = primaries m in
      let b = secondaries m in
      let x = primary m / cycles_of m in
      let y = secondary m / cycles_of m in
      front (holding a b x y)
      (sharps a b ((x - 1) / 2) ((y - 1) / 2) ++ (holding a b ((x - 1) % 2) ((y - 1) % 2) ∷ reverse (sharps a b ((x - 1) / 2) ((y - 1) / 2))))
      place (subst (λ (k : ℕ). place < k) (sym natural_size) h)

  degree_zero : degree P G 0 ≡ 0
  unfolding degree
  degree_zero =
      ap (λ (k : ℕ). inverse P G * k % reduced P G) (zero-div (cycles P G))
      ∙ ap (λ (k : ℕ). k % reduced P G) (mul-zero (inverse P G))
      ∙ zero-mod (reduced P G)

  start_place : (l.start + degree P G 0) % reduced P G ≡ l.start
  start_place =
      ap (λ (k : ℕ). (l.start + k) % reduced P G) degree_zero
      ∙ ap (λ (k : ℕ). k % reduced P G) (add-zero l.start)
      ∙ mod-eq_of_lt (omega (arith, shape.start_below, shape.enough_keys))

  listed_zero : listed_layer P G l.start m 0 ≡ 0
  unfolding listed_layer
  listed_zero = ap (λ (k : ℕ). get_or (layers_of m) k 0) start_place ∙ letters_natural l.start shape.start_below

  alternate_zero : (i : ℕ) → i / cycles P G ≡ 0 → alternate_layer P G l.letters l.start (secondaries m) i ≡ 0
  unfolding alternate_layer
  alternate_zero i e =
      let h = G * l.start / cycles P G in
      sym
      (alternating_same l.letters (secondaries m) h (i / cycles P G)
      (ap (λ (k : ℕ). k * secondaries m / l.letters % 2) (let q : h ≡ i / cycles P G + h = omega arith in q)))

  pick_zero : (b : Bool) (u v : ℕ) → u ≡ 0 → v ≡ 0 → pick b u v ≡ 0
  pick_zero true u v e f = e
  pick_zero false u v e f = f

  zero_natural : number_in l 0 ≡ 0
  unfolding layer_number layer_of cycle
  zero_natural =
      let a = pick_zero (equalized m) _ _ (alternate_zero 0 (zero-div (cycles P G))) listed_zero in
      omega (arith, ap (λ (k : ℕ). k * cycles P G) a, zero-mul (cycles P G), zero-mod (cycles P G))

  -- in an equalized scale the keys below n are in the first layer
  pub first_keys : equalized m ≡ true → (i : ℕ) → i / cycles P G ≡ 0 → number_in l i ≡ cycle P G i
  unfolding layer_number layer_of
  first_keys t i e =
      let a : layer_of P G l.letters l.start m i ≡ 0
      = ap (λ (b : Bool). pick b (alternate_layer P G l.letters l.start (secondaries m) i) (listed_layer P G l.start m i)) t ∙ alternate_zero i e in
      ap (λ (k : ℕ). k * cycles P G + cycle P G i) a ∙ ap (λ (k : ℕ). k + cycle P G i) (zero-mul (cycles P G)) ∙ zero-add (cycle P G i)

  -- ---- the entries repeat

  -- equal steps are as large as the number of cycles, so there are as many keys in a cycle as letters
  pub equal_steps : equalized m ≡ true → reduced P G ≡ l.letters
  unfolding reduced_size_of cycles_of size_of
  equal_steps t =
      let p = primary m in
      let same : p ≡ secondary m = eqb-true p (secondary m) t in
      let g = gcd_is p (secondary m) in
      let whole : gcd_or_one p (secondary m) ≡ p
      = gcd_or_one_lem p (secondary m) (gcd_positive p (secondary m) shape.primary_above)
      ∙ dvd_antisymm g.left (g.greatest p (dvd_refl p) (subst (λ (k : ℕ). p ∣ k) same (dvd_refl p))) in
      sym shape.reduced_is
      ∙ ap₂ (λ (x y : ℕ). x / y) (ap (λ (k : ℕ). primaries m * p + secondaries m * k) (sym same) ∙ sym (add-mul (primaries m) (secondaries m) p)) whole
      ∙ mul-div_cancel (count_of m) shape.primary_above
      ∙ shape.letters

  same_key : (i k : ℕ) → (i + k * P) % P ≡ i % P
  same_key i k = add-mul-mod_self_right i k P

  turns_on : (i : ℕ) → (i + 2 * P) / cycles P G ≡ i / cycles P G + 2 * reduced P G
  turns_on i =
      ap (λ (k : ℕ). (i + k) / cycles P G) (ap (λ (k : ℕ). 2 * k) (period_is P G parts.positive) ∙ sym (mul_assoc 2 (reduced P G) (cycles P G)))
      ∙ add-mul-div_right i (2 * reduced P G) (cycles_positive P G parts.positive)

  alternate_again : equalized m ≡ true → (i : ℕ)
      → alternate_layer P G l.letters l.start (secondaries m) (i + 2 * P) ≡ alternate_layer P G l.letters l.start (secondaries m) i
  unfolding alternate_layer
  alternate_again t i =
      ap (alternating l.letters (secondaries m) (G * l.start / cycles P G)) (turns_on i ∙ ap (λ (k : ℕ). i / cycles P G + 2 * k) (equal_steps t))
      ∙ alternating_again l.letters (secondaries m) (G * l.start / cycles P G) (i / cycles P G) (omega (arith, shape.at_least_five))

  again_by : (b : Bool) → equalized m ≡ b → (i : ℕ) → number_in l (i + pick b (2 * P) P) ≡ number_in l i
  unfolding layer_number layer_of listed_layer
  again_by true t i =
      let keys = formulas_agree P G parts.positive (i + 2 * P) i (same_key i 2) in
      ap₂ (λ (x y : ℕ). x * cycles P G + y)
      (ap (λ (b : Bool). pick b (alternate_layer P G l.letters l.start (secondaries m) (i + 2 * P)) (listed_layer P G l.start m (i + 2 * P))) t
      ∙ alternate_again t i
      ∙ ap (λ (b : Bool). pick b (alternate_layer P G l.letters l.start (secondaries m) i) (listed_layer P G l.start m i)) (sym t))
      keys.1
  again_by false t i =
      let keys = formulas_agree P G parts.positive (i + P) i (add-mod_right i P) in
      ap₂ (λ (x y : ℕ). x * cycles P G + y)
      (ap (λ (b : Bool). pick b (alternate_layer P G l.letters l.start (secondaries m) (i + P)) (listed_layer P G l.start m (i + P))) t
      ∙ ap (λ (d : ℕ). get_or (layers_of m) ((l.start + d) % reduced P G) 0) keys.0
      ∙ ap (λ (b : Bool). pick b (alternate_layer P G l.letters l.start (secondaries m) i) (listed_layer P G l.start m i)) (sym t))
      keys.1

  -- ---- each number

  module _ (other : equalized m ≡ false) (j : ℕ) (h : j < count_in l) where
    abbrev n : ℕ
    n = cycles P G

    abbrev R : ℕ
    R = reduced P G

    abbrev start : ℕ
    start = l.start

    within : j / n < length (layer_sizes m)
    unfolding layer_count
    within =
        (div-lt_iff_lt-mul (cycles_positive P G parts.positive)).1
        (subst (λ (b : Bool). j < pick b 2 (length (layer_sizes m)) * n) other h)

    first_place : (place : ℕ) × (place < sum (layer_sizes m)) × (get_or (layers_of m) place 0 ≡ j / n)
    unfolding layers_of layer_sizes
    first_place =
        let r = numbered_met 0 (all_sizes (primaries m) (secondaries m) (primary m / cycles_of m) (secondary m / cycles_of m)) (j / n) within in
        (r.0, r.1, r.2 ∙ zero-add (j / n))

    abbrev place : ℕ
    place = first_place.0

    abbrev d : ℕ
    d = (place + (R - start)) % R

    d_below : d < R
    d_below = mod-lt _ (reduced_positive P G parts.positive)

    c_below : j % n < n
    c_below = mod-lt j (cycles_positive P G parts.positive)

    leads : (start + d) % R ≡ place
    leads =
        let b : place < R = omega (arith, first_place.1, layer_sizes_sum m, shape.reduced_is) in
        add-mod-mod start (place + (R - start)) R
        ∙ ap (λ (k : ℕ). k % R) (let q : start + (place + (R - start)) ≡ place + R = omega (arith, shape.start_below, shape.enough_keys) in q)
        ∙ add-mod_right place R
        ∙ mod-eq_of_lt b

    key_number : number_in l (key_with P G parts.positive d (j % n) d_below c_below) ≡ j
    unfolding layer_number layer_of listed_layer
    key_number =
        let i = key_with P G parts.positive d (j % n) d_below c_below in
        let a : layer_of P G l.letters start m i ≡ j / n
        = ap (λ (b : Bool). pick b (alternate_layer P G l.letters start (secondaries m) i) (listed_layer P G start m i)) other
        ∙ ap (λ (k : ℕ). get_or (layers_of m) ((start + k) % R) 0) (key_with_degree P G parts.positive d (j % n) d_below c_below)
        ∙ ap (λ (k : ℕ). get_or (layers_of m) k 0) leads
        ∙ first_place.2 in
        ap₂ (λ (x y : ℕ). x * n + y) a (key_with_cycle P G parts.positive d (j % n) d_below c_below) ∙ div-add-mod' j n

    met : (key : ℕ) × (key < P) × (number_in l key ≡ j)
    met = (
      key_with P G parts.positive d (j % n) d_below c_below,
      key_with_below P G parts.positive d (j % n) d_below c_below,
      key_number,
    )

pub counts_fit : CountsFit
counts_fit r l ok = fits r l ok

pub numbers_are_below : NumbersAreBelow
numbers_are_below r l ok key = below r l ok key

pub key_zero_is_natural : KeyZeroIsNatural
key_zero_is_natural r l ok = zero_natural r l ok

pub each_number_is_met : EachNumberIsMet
each_number_is_met r l ok other j h = met r l ok other j h

pub numbers_repeat : NumbersRepeat
numbers_repeat r l ok key = again_by r l ok (equalized l.pattern) refl key

pub layers_from_zero_on : LayersFromZeroOn
layers_from_zero_on r l ok key =
    sym (rounds (key / count) (key % count)) ∙ ap (number_in l) (add_comm (key % count) (key / count * count) ∙ div-add-mod' key count)
  where
    count : ℕ
    count = entry_count l.octave l.pattern

    rounds : (turns i : ℕ) → number_in l (i + turns * count) ≡ number_in l i
    rounds zero i = ap (λ (k : ℕ). number_in l (i + k)) (zero-mul count) ∙ ap (number_in l) (add-zero i)
    rounds (suc turns) i =
        ap (number_in l) (let e : i + suc turns * count ≡ i + turns * count + count = omega (arith, suc-mul turns count) in e)
        ∙ numbers_repeat r l ok (i + turns * count)
        ∙ rounds turns i
