-- The pattern is the scale: the moment of symmetry of the Xenharmonic Wiki, tied to the numbers of every walk.
use Rattle.std.specs.Prelude.{ℕ, zero, suc, ◌+◌, ◌*◌, ◌-◌, ◌%◌, ◌≤◌, ◌<◌, ◌≡◌, ltb, Some, slice_get}
use Rattle.answer.specs.Choice.{pick}
use Rattle.mos.specs.declared.Mos.{Mos}
use Rattle.mos.specs.Patterns.{primaries, secondaries, primary, secondary, count_of, genesis}
use Rattle.mos.specs.Walks.{children}

-- The chain of notes: place k lies k generators G up, brought back into the period P.
abbrev pub key_of : (P G k : ℕ) → ℕ
key_of P G k = (G * k) % P

-- A pattern with counts a and b has the a + b places from 0 on.
-- The next note above place k is b places up the chain where k is below a, and a places down otherwise.
unfoldable pub above : Mos → ℕ → ℕ
above m k = pick (ltb k (primaries m)) (k + secondaries m) (k - primaries m)

-- It lies the primary step higher for the a places below a, and the secondary step for the b others.
unfoldable pub step_above : Mos → ℕ → ℕ
step_above m k = pick (ltb k (primaries m)) (primary m) (secondary m)

-- The place that k steps upward lead to from place j, and how far above it that is.
unfoldable pub place_above : Mos → ℕ → ℕ → ℕ
unfolding above
place_above m j zero = j
place_above m j (suc k) = above m (place_above m j k)

unfoldable pub interval : Mos → ℕ → ℕ → ℕ
unfolding place_above step_above
interval m j zero = 0
interval m j (suc k) = interval m j k + step_above m (place_above m j k)

-- The round: i steps upward from place 0.
abbrev pub round : Mos → ℕ → ℕ
round m i = place_above m 0 i

abbrev pub climbed : Mos → ℕ → ℕ
climbed m i = interval m 0 i

-- A scale of two step sizes that its generator makes.
pub record MomentOfSymmetry (P G : ℕ) (m : Mos) : Type 0 where
  -- above each place, at its step round the period, is a place of the chain
  pub inside : (k : ℕ) → k < count_of m → above m k < count_of m
  pub apart : (k : ℕ) → k < count_of m → (key_of P G k + step_above m k) % P ≡ key_of P G (above m k)
  -- one round meets each place, and meets it once, and is back at place 0
  pub meets : (k : ℕ) → k < count_of m → (i : ℕ) × (i < count_of m) × (round m i ≡ k)
  pub once : (i j : ℕ) → i < count_of m → j < count_of m → round m i ≡ round m j → i ≡ j
  pub back : round m (count_of m) ≡ 0
  -- its distances sum to the period
  pub period : climbed m (count_of m) ≡ P

-- Where the steps are above 0, the round takes the notes in order of pitch, and no note lies between one and the next.
pub record InOrderOfPitch (P G : ℕ) (m : Mos) : Type 0 where
  pub pitch : (i : ℕ) → i < count_of m → key_of P G (round m i) ≡ climbed m i
  pub rises : (i : ℕ) → climbed m i < climbed m (suc i)
  pub next : (j k : ℕ) → j < count_of m → k < count_of m → (j ≡ k → ⊥) → step_above m k ≤ (key_of P G j + P - key_of P G k) % P

-- Theorem: each pattern on the walk from the genesis of P and G is the scale of its first notes of the chain,
-- in order of pitch unless the generator is a multiple of the period.
pub record PatternIsScale : Type 0 where
  pub scale : (P G : ℕ) → 0 < P → (k : ℕ) (m : Mos) → slice_get (children (genesis P G)) k ≡ Some m → MomentOfSymmetry P G m
  pub order : (P G : ℕ) → 0 < P → 0 < G % P → (k : ℕ) (m : Mos) → slice_get (children (genesis P G)) k ≡ Some m → InOrderOfPitch P G m
