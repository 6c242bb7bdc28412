-- The Xenharmonic Wiki's usual definition of a moment of symmetry: each interval class, that is all intervals of so many steps of the scale,
-- fewer than all, comes in two sizes. (Of steps that are equal the two are one.)
use Rattle.std.specs.Prelude.{ℕ, ◌+◌, ◌*◌, ◌-◌, ◌%◌, ◌<◌, ◌≡◌, ◌↔◌, ◌⊎◌, Some, slice_get}
use Rattle.mos.specs.declared.Mos.{Mos}
use Rattle.mos.specs.Patterns.{secondaries, primary, secondary, count_of, genesis}
use Rattle.mos.specs.Walks.{children}
use Rattle.mos.specs.Scale.{key_of, place_above, interval, round, climbed}

-- How far up the chain k steps lead, modulo the number of places: each leads b places up, or a places down, which is the same.
abbrev pub places_up : Mos → ℕ → ℕ
places_up m k = k * secondaries m % count_of m

-- k steps up from a place lead so many places up the chain or, past its end, as many less all places; what lies between the two notes is
-- the interval, modulo the period. The round goes on as it began: from its place i, k steps lead to its place i + k.
pub record LeadsOn (P G : ℕ) (m : Mos) (k : ℕ) : Type 0 where
  pub place : (j : ℕ) → j < count_of m → place_above m j k ≡ (j + places_up m k) % count_of m
  pub notes : (j : ℕ) → j < count_of m → (key_of P G j + interval m j k) % P ≡ key_of P G (place_above m j k)
  pub along : (i : ℕ) → place_above m (round m i) k ≡ round m (i + k)
  pub climbs : (i : ℕ) → climbed m i + interval m (round m i) k ≡ climbed m (i + k)

-- The interval class of k steps: from each place it has one of two sizes.
pub record TwoSizes (P G : ℕ) (m : Mos) (k : ℕ) : Type 0 where
  pub one : ℕ
  pub other : ℕ
  pub each : (j : ℕ) → j < count_of m → (interval m j k ≡ one) ⊎ (interval m j k ≡ other)
  -- both occur
  pub meets_one : (j : ℕ) × (j < count_of m) × (interval m j k ≡ one)
  pub meets_other : (j : ℕ) × (j < count_of m) × (interval m j k ≡ other)
  -- modulo the period, one is so many generators up, the other the remaining ones down
  pub up : one % P ≡ key_of P G (places_up m k)
  pub down : (other + key_of P G (count_of m - places_up m k)) % P ≡ 0
  -- they are as far apart as the steps are, so they are two unless both steps are equal
  pub apart : one + secondary m ≡ other + primary m
  pub equal : (one ≡ other) ↔ (primary m ≡ secondary m)

-- Theorem: of each pattern on the walk from the genesis of P and G.
pub record IntervalClassesHaveTwoSizes : Type 0 where
  pub leads : (P G : ℕ) → 0 < P → (n : ℕ) (m : Mos) → slice_get (children (genesis P G)) n ≡ Some m → (k : ℕ) → LeadsOn P G m k
  pub sizes : (P G : ℕ) → 0 < P → (n : ℕ) (m : Mos) → slice_get (children (genesis P G)) n ≡ Some m
      → (k : ℕ) → 0 < k → k < count_of m → TwoSizes P G m k
