-- k steps from place j, q of them secondary: j + k × b is q × N and the place reached. So q is the quotient of k × b by N, or one more
-- where j and the remainder reach N; that remainder is above 0, since the round meets place 0 only once.
use Prim.Native.Nat.{ℕ, zero, suc, ◌+◌, ◌*◌, ◌-◌, ◌/◌, ◌%◌, ◌≤◌, ◌<◌}
use mathlib.Core.Path.{◌≡◌, refl, ap, ap₂, sym, ◌∙◌}
use mathlib.Core.Logic.{◌⊎◌, inl, inr}
use native.Mathlib.Nat.{mod-lt, mod-eq_of_lt, mod_self, mod-mod, div-add-mod', add-zero, zero-add, suc-mul}
use native.Mathlib.Decide.{dec_lt}
use native.Mathlib.Omega.{arith}
use lib.Arith.{digits_div, digits_mod}
use Rattle.math.proofs.Congruence.{add_cong}
use Rattle.mos.specs.declared.Mos.{Mos}
use Rattle.mos.specs.Patterns.{secondaries, primary, secondary, count_of}
use Rattle.mos.specs.Scale.{key_of, above, step_above, place_above, interval, round, climbed}
use Rattle.mos.specs.IntervalClasses.{places_up, TwoSizes, IntervalClassesHaveTwoSizes}
use Rattle.mos.proofs.Scale.{Chain, chain_walk, reached, interval_leads, key_zero, moment_of_symmetry}

-- ---- the round goes on as it began

along : (m : Mos) (i k : ℕ) → place_above m (round m i) k ≡ round m (i + k)
unfolding place_above
along m i zero = ap (round m) (sym (add-zero i))
along m i (suc k) = ap (above m) (along m i k) ∙ ap (round m) (let t : suc (i + k) ≡ i + suc k = omega arith in t)

climbs : (m : Mos) (i k : ℕ) → climbed m i + interval m (round m i) k ≡ climbed m (i + k)
unfolding interval
climbs m i zero = add-zero (climbed m i) ∙ ap (climbed m) (sym (add-zero i))
climbs m i (suc k) =
    (let t : climbed m i + (interval m (round m i) k + step_above m (place_above m (round m i) k))
    ≡ climbed m i + interval m (round m i) k + step_above m (place_above m (round m i) k) = omega arith in t)
    ∙ ap₂ (λ (x y : ℕ). x + step_above m y) (climbs m i k) (along m i k)
    ∙ ap (climbed m) (let t : suc (i + k) ≡ i + suc k = omega arith in t)

round_start : (m : Mos) → 0 ≡ round m 0
unfolding place_above
round_start m = refl

-- ---- where k steps lead

quotient_of : (n q x p : ℕ) → p < n → q * n + p ≡ x → q ≡ x / n
quotient_of n q x p h e = sym (digits_div q h) ∙ ap (λ (z : ℕ). z / n) e

remainder_of : (n q x p : ℕ) → p < n → q * n + p ≡ x → p ≡ x % n
remainder_of n q x p h e = sym (digits_mod q h) ∙ ap (λ (z : ℕ). z % n) e

module _ (m : Mos) (k : ℕ) where
  low : ℕ
  low = k * secondaries m / count_of m

  split : k * secondaries m ≡ low * count_of m + places_up m k
  unfolding low
  split = sym (div-add-mod' (k * secondaries m) (count_of m))

  place_is : (j : ℕ) → j < count_of m → place_above m j k ≡ (j + places_up m k) % count_of m
  place_is j h =
      let x = reached m j h k in
      remainder_of (count_of m) x.q (j + k * secondaries m) (place_above m j k) x.inside (sym x.places)
      ∙ ap (λ (n : ℕ). n % count_of m) (let t : j + k * secondaries m ≡ k * secondaries m + j = omega arith in t)
      ∙ sym (add_cong (count_of m) j (places_up m k) (k * secondaries m) (mod-mod (k * secondaries m) (count_of m)))
      ∙ ap (λ (n : ℕ). n % count_of m) (let t : places_up m k + j ≡ j + places_up m k = omega arith in t)

-- ---- the two sizes

module _ (P G : ℕ) (m : Mos) (c : Chain P G m) (k : ℕ) (hk : 0 < k) (below : k < count_of m) where
  rest : ℕ
  rest = places_up m k

  rest_below : rest < count_of m
  unfolding rest
  rest_below = mod-lt (k * secondaries m) (let t : 0 < count_of m = omega arith in t)

  parts : k * secondaries m ≡ low m k * count_of m + rest
  unfolding rest
  parts = split m k

  -- secondary steps: `low`, or one more
  fewer : (j : ℕ) (h : j < count_of m) → j + rest < count_of m → (reached m j h k).q ≡ low m k
  fewer j h l =
      let x = reached m j h k in
      quotient_of (count_of m) x.q (j + k * secondaries m) (place_above m j k) x.inside (sym x.places)
      ∙ sym (quotient_of (count_of m) (low m k) (j + k * secondaries m) (j + rest) l (omega (arith, parts)))

  more : (j : ℕ) (h : j < count_of m) → count_of m ≤ j + rest → (reached m j h k).q ≡ suc (low m k)
  more j h l =
      let x = reached m j h k in
      quotient_of (count_of m) x.q (j + k * secondaries m) (place_above m j k) x.inside (sym x.places)
      ∙ sym (quotient_of (count_of m) (suc (low m k)) (j + k * secondaries m) (j + rest - count_of m) (omega (arith, rest_below)) (omega (arith, parts, suc-mul (low m k) (count_of m))))

  start : 0 < count_of m
  start = omega arith

  -- the rest is the place reached from place 0, and not 0
  from_start : round m k ≡ rest
  unfolding rest
  from_start = place_is m k 0 start ∙ ap (λ (n : ℕ). n % count_of m) (zero-add rest) ∙ mod-eq_of_lt rest_below

  rest_above : 0 < rest
  rest_above = go rest refl
    where
      go : (t : ℕ) → rest ≡ t → 0 < rest
      go (suc t) e = omega arith
      go zero e =
          let same : k ≡ 0 = (moment_of_symmetry P G m c).once k 0 below start (from_start ∙ e ∙ round_start m) in
          absurd (let t : ⊥ = omega arith in t)

  size : ℕ → ℕ
  size q = (k - q) * primary m + q * secondary m

  size_is : (j : ℕ) (h : j < count_of m) (q : ℕ) → (reached m j h k).q ≡ q → interval m j k ≡ size q
  unfolding size
  size_is j h q e =
      let x = reached m j h k in
      x.high ∙ ap₂ (λ (u v : ℕ). u * primary m + v * secondary m) (let t : x.r ≡ k - q = omega (arith, x.steps) in t) e

  -- from place 0 there are `low`; from the place that leads to place 0, one more
  from_zero : interval m 0 k ≡ size (low m k)
  from_zero = size_is 0 start (low m k) (fewer 0 start (omega (arith, rest_below)))

  last : ℕ
  last = count_of m - rest

  last_below : last < count_of m
  unfolding last
  last_below = omega (arith, rest_above)

  last_more : (reached m last last_below k).q ≡ suc (low m k)
  unfolding last
  last_more = more last last_below (omega (arith, rest_below))

  from_last : interval m last k ≡ size (suc (low m k))
  from_last = size_is last last_below (suc (low m k)) last_more

  to_zero : place_above m last k ≡ 0
  unfolding last rest
  to_zero = place_is m k last last_below ∙ ap (λ (n : ℕ). n % count_of m) (let t : last + rest ≡ count_of m = omega (arith, rest_below) in t) ∙ mod_self (count_of m)

  low_below : low m k < k
  low_below = omega (arith, last_more, (reached m last last_below k).steps)

  sizes_apart : size (low m k) + secondary m ≡ size (suc (low m k)) + primary m
  unfolding size
  sizes_apart =
      omega (
        arith,
        suc-mul (low m k) (secondary m),
        suc-mul (k - suc (low m k)) (primary m),
        ap (λ (v : ℕ). v * primary m) (let t : k - low m k ≡ suc (k - suc (low m k)) = omega (arith, low_below) in t),
      )

  -- modulo the period
  goes_up_lem : size (low m k) % P ≡ key_of P G rest
  goes_up_lem =
      ap (λ (n : ℕ). n % P) (sym (zero-add (interval m 0 k) ∙ from_zero))
      ∙ ap (λ (n : ℕ). (n + interval m 0 k) % P) (sym (key_zero P G))
      ∙ interval_leads P G m c 0 k
      ∙ ap (key_of P G) from_start

  goes_down_lem : (size (suc (low m k)) + key_of P G last) % P ≡ 0
  goes_down_lem =
      ap (λ (n : ℕ). n % P) (let t : size (suc (low m k)) + key_of P G last ≡ key_of P G last + interval m last k = omega (arith, from_last) in t)
      ∙ interval_leads P G m c last k
      ∙ ap (key_of P G) to_zero
      ∙ key_zero P G

  two_sizes : TwoSizes P G m k
  unfolding last rest
  two_sizes = record {
    one = size (low m k);
    other = size (suc (low m k));
    each = λ j h. by j h (dec_lt (j + rest) (count_of m));
    meets_one = (0, start, from_zero);
    meets_other = (last, last_below, from_last);
    up = goes_up_lem;
    down = goes_down_lem;
    apart = sizes_apart;
    equal = (λ e. omega (arith, sizes_apart), λ e. omega (arith, sizes_apart));
  }
    where
      by : (j : ℕ) → j < count_of m → Dec (j + rest < count_of m) → (interval m j k ≡ size (low m k)) ⊎ (interval m j k ≡ size (suc (low m k)))
      by j h (yes l) = inl (size_is j h (low m k) (fewer j h l))
      by j h (no l) = inr (size_is j h (suc (low m k)) (more j h (omega arith)))

-- ---- of every walk

pub interval_classes_have_two_sizes : IntervalClassesHaveTwoSizes
interval_classes_have_two_sizes = record {
  leads =
      λ P G h n m e k.
      record {
        place = place_is m k;
        notes = λ j l. interval_leads P G m (chain_walk P G h n m e) j k;
        along = λ i. along m i k;
        climbs = λ i. climbs m i k;
      };
  sizes = λ P G h n m e k hk below. two_sizes P G m (chain_walk P G h n m e) k hk below;
}
