-- From an entry of the table to the next the place goes on by as many places as there are letters, or from a letter's last to the next
-- letter's first by one, sixteen times as many back. A place further on sounds the key that is further on by what those places sound.
use Prim.Native.Nat.{ℕ, ◌+◌, ◌*◌, ◌/◌, ◌%◌, ◌<◌}
use mathlib.Core.Logic.{◌⊎◌, inl, inr}
use mathlib.Core.Path.{◌≡◌, sym, ap, ap₂, ◌∙◌}
use lib.IntN.{ℤ, pos, ◌+ℤ◌, ◌-ℤ◌, ◌*ℤ◌}
use native.Mathlib.Nat.{mul-add}
use native.Mathlib.Omega.{arith}
use Rattle.math.specs.Division.{remainder}
use Rattle.math.proofs.Congruence.{add_cong}
use Rattle.math.proofs.Integers.{up, down, Rep, rep_self, rep_pos, rep_add, rep_minus, rep_mul, rep_agree}
use Rattle.math.proofs.Division.{remainder_below, remainder_rep, remainders_agree}
use Rattle.pergen.specs.Spelling.{place, sounds}
use Rattle.pergen.proofs.SignedNumbers.{signs_add_to_the_place}
use Rattle.layout_reach.specs.Reach.{distance}
use Rattle.layout_retuning.specs.Retunings.{table_spelling}
use Rattle.layout_retuning.specs.Parts.{Numbers, keys_at, steps_by, table_keys, StridesOf}
use Rattle.layout_retuning.specs.declared.parts.Keys.{Keys}
use Rattle.layout_retuning.specs.declared.parts.Strides.{Strides}

-- ---- the keys of two places together

module _ (P G : ℕ) (h : 0 < P) where
  pub key_on : (u v : ℤ) → sounds P G (u +ℤ v) 0 ≡ (sounds P G u 0 + sounds P G v 0) % P
  unfolding sounds
  key_on u v =
      (remainders_agree P h (rep_add (rep_mul G (rep_add (rep_self u) (rep_self v))) (rep_pos 0)) (rep_pos (key u + key v))).1
      (ap (λ (x : ℕ). x % P) split
      ∙ add_cong P (G * up v + 0) (G * up u + 0) (key u + (G * down u + 0)) (sym (left u))
      ∙ ap (λ (x : ℕ). x % P) (let z : key u + (G * down u + 0) + (G * up v + 0) ≡ G * up v + 0 + (key u + (G * down u + 0)) = omega arith in z)
      ∙ add_cong P (key u + (G * down u + 0)) (G * up v + 0) (key v + (G * down v + 0)) (sym (left v))
      ∙ ap (λ (x : ℕ). x % P) joint)
    where
      key : ℤ → ℕ
      key z = remainder (pos G *ℤ z +ℤ pos 0) P

      left : (z : ℤ) → (key z + (G * down z + 0)) % P ≡ (G * up z + 0) % P
      left z = remainder_rep P h (rep_add (rep_mul G (rep_self z)) (rep_pos 0))

      split : G * (up u + up v) + 0 + 0 ≡ G * up u + 0 + (G * up v + 0)
      split = omega (arith, mul-add G (up u) (up v))

      joint : key v + (G * down v + 0) + (key u + (G * down u + 0)) ≡ key u + key v + (G * (down u + down v) + 0)
      joint = omega (arith, mul-add G (down u) (down v))

-- ---- the places of the entries

module _ (N s : ℕ) where
  abbrev spelt_at : ℕ → ℕ → ℤ
  spelt_at letter j = place N s (table_spelling letter j)

  place_is : (letter j : ℕ) → Rep (spelt_at letter j) (letter + N * (j + 0) + 0) (0 + N * (0 + 8) + s)
  unfolding place
  place_is letter j =
      rw (signs_add_to_the_place N (pos j -ℤ pos 8))
      (rep_minus (rep_add (rep_pos letter) (rep_mul N (rep_minus (rep_pos j) (rep_pos 8)))) (rep_pos s))

  pub first_place : pos 0 -ℤ pos (N * 8 + s) ≡ spelt_at 0 0
  first_place = rep_agree (rep_minus (rep_pos 0) (rep_pos (N * 8 + s))) (place_is 0 0) (omega arith)

  a_sharp_on : (letter j : ℕ) → spelt_at letter (j + 1) ≡ spelt_at letter j +ℤ (pos N -ℤ pos 0)
  a_sharp_on letter j =
      rep_agree (place_is letter (j + 1)) (rep_add (place_is letter j) (rep_minus (rep_pos N) (rep_pos 0)))
      (omega (arith, mul-add N (j + 0) 1))

  a_letter_on : (letter : ℕ) → spelt_at (letter + 1) 0 ≡ spelt_at letter 16 +ℤ (pos 1 -ℤ pos (N * 16))
  a_letter_on letter =
      rep_agree (place_is (letter + 1) 0) (rep_add (place_is letter 16) (rep_minus (rep_pos 1) (rep_pos (N * 16)))) (omega arith)

  abbrev place_at_lem : ℕ → ℤ
  place_at_lem i = spelt_at (i / 17) (i % 17)

  sharp_place : (i : ℕ) → (i % 17 ≡ 16 → ⊥) → place_at_lem (i + 1) ≡ place_at_lem i +ℤ (pos N -ℤ pos 0)
  sharp_place i h =
      ap₂ spelt_at (let z : (i + 1) / 17 ≡ i / 17 = omega arith in z) (let z : (i + 1) % 17 ≡ i % 17 + 1 = omega arith in z)
      ∙ a_sharp_on (i / 17) (i % 17)

  letter_place : (i : ℕ) → i % 17 ≡ 16 → place_at_lem (i + 1) ≡ place_at_lem i +ℤ (pos 1 -ℤ pos (N * 16))
  letter_place i h =
      ap₂ spelt_at (let z : (i + 1) / 17 ≡ i / 17 + 1 = omega arith in z) (let z : (i + 1) % 17 ≡ 0 = omega arith in z)
      ∙ a_letter_on (i / 17)
      ∙ ap (λ (j : ℕ). spelt_at (i / 17) j +ℤ (pos 1 -ℤ pos (N * 16))) (sym h)

-- ---- both keys

abbrev both : ℕ → ℕ → Keys
both a b = record { first = a; second = b }

pub keys_are : (k : Numbers) (u : ℤ) (stars a b : ℕ) → a ≡ sounds k.octave k.first u stars
    → b ≡ sounds k.octave k.second u stars → both a b ≡ keys_at k u stars
unfolding keys_at
keys_are k u stars a b e f = ap₂ both e f

pub first_keys : (k : Numbers) (y : Keys) → y ≡ keys_at k (pos 0 -ℤ pos (k.num_letters * 8 + k.start)) 0 → y ≡ table_keys k 0
unfolding table_keys
first_keys k y e = e ∙ ap (λ (u : ℤ). keys_at k u 0) (first_place k.num_letters k.start)

module _ (k : Numbers) (h : 0 < k.octave) where
  pub keys_below : (u : ℤ) (stars : ℕ) (r : Keys) → r ≡ keys_at k u stars → (r.first < k.octave) × (r.second < k.octave)
  unfolding keys_at sounds
  keys_below u stars r e = (
    omega (arith, ap (λ (x : Keys). x.first) e, remainder_below (pos k.first *ℤ u +ℤ pos stars) k.octave h),
    omega (arith, ap (λ (x : Keys). x.second) e, remainder_below (pos k.second *ℤ u +ℤ pos stars) k.octave h),
  )

  pub table_keys_below : (i : ℕ) (r : Keys) → r ≡ table_keys k i → (r.first < k.octave) × (r.second < k.octave)
  unfolding table_keys
  table_keys_below i r e = keys_below (place_at_lem k.num_letters k.start i) 0 r e

  keys_on : (u v : ℤ) (x y : Keys) (a b : ℕ) → x ≡ keys_at k u 0 → y ≡ keys_at k v 0 → a ≡ (x.first + y.first) % k.octave
      → b ≡ (x.second + y.second) % k.octave → both a b ≡ keys_at k (u +ℤ v) 0
  unfolding keys_at
  keys_on u v x y a b e f p q =
      ap₂ both
      (p
      ∙ ap₂ (λ (m n : ℕ). (m + n) % k.octave) (ap (λ (z : Keys). z.first) e) (ap (λ (z : Keys). z.first) f)
      ∙ sym (key_on k.octave k.first h u v))
      (q
      ∙ ap₂ (λ (m n : ℕ). (m + n) % k.octave) (ap (λ (z : Keys). z.second) e) (ap (λ (z : Keys). z.second) f)
      ∙ sym (key_on k.octave k.second h u v))

  -- what both keys go on by behind entry i
  abbrev pub Behind : Strides → ℕ → Keys → Type 0
  Behind t i y = ((i % 17 ≡ 16) × (y ≡ t.letter)) ⊎ ((i % 17 ≡ 16 → ⊥) × (y ≡ t.sharp))

  module _ (t : Strides) (g : StridesOf k t) (i : ℕ) (x : Keys) (e : x ≡ table_keys k i) (y : Keys) where
    pub stride_below : Behind t i y → (y.first < k.octave) × (y.second < k.octave)
    stride_below (inl (_, q)) = keys_below (pos 1 -ℤ pos (k.num_letters * 16)) 0 y (q ∙ g.letter_is)
    stride_below (inr (_, q)) = keys_below (pos k.num_letters -ℤ pos 0) 0 y (q ∙ g.sharp_is)

    pub first_on : Behind t i y → (x.first < k.octave) × (y.first < k.octave)
    first_on b = ((table_keys_below i x e).0, (stride_below b).0)

    pub second_on : Behind t i y → (x.second < k.octave) × (y.second < k.octave)
    second_on b = ((table_keys_below i x e).1, (stride_below b).1)

    pub both_on : Behind t i y → (a b : ℕ) → a ≡ (x.first + y.first) % k.octave → b ≡ (x.second + y.second) % k.octave
        → both a b ≡ table_keys k (i + 1)
    unfolding table_keys
    both_on (inl (m, q)) a b u v =
        keys_on (place_at_lem k.num_letters k.start i) (pos 1 -ℤ pos (k.num_letters * 16)) x y a b e (q ∙ g.letter_is) u v
        ∙ ap (λ (z : ℤ). keys_at k z 0) (sym (letter_place k.num_letters k.start i m))
    both_on (inr (m, q)) a b u v =
        keys_on (place_at_lem k.num_letters k.start i) (pos k.num_letters -ℤ pos 0) x y a b e (q ∙ g.sharp_is) u v
        ∙ ap (λ (z : ℤ). keys_at k z 0) (sym (sharp_place k.num_letters k.start i m))

-- ---- an entry

pub entry_is : (k : Numbers) (i : ℕ) (x : Keys) (n : ℕ) → x ≡ table_keys k i → n ≡ distance k.octave (pos x.first) (pos x.second)
    → n ≡ steps_by k (table_spelling (i / 17) (i % 17))
unfolding table_keys keys_at steps_by
entry_is k i x n e q =
    q
    ∙ ap₂ (λ (u v : ℕ). distance k.octave (pos u) (pos v)) (ap (λ (z : Keys). z.first) e) (ap (λ (z : Keys). z.second) e)
