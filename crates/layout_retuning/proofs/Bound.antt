-- The two keys of a spelling differ by (G − H) × place, stars and whole octaves aside; a remainder is no larger than what it is of.
use Prim.Native.Nat.{ℕ, suc, ◌+◌, ◌*◌, ◌-◌, ◌≤◌, ◌<◌, min}
use mathlib.Core.Path.{◌≡◌, refl, sym, ap, ap₂, ◌∙◌, subst}
use mathlib.Core.Bool.{Bool, true, false}
use lib.Dec.{ltb}
use lib.IntN.{ℤ, pos, negsuc, nat_abs, ◌+ℤ◌, ◌-ℤ◌, ◌*ℤ◌}
use borrow.Author.Tests.{ltb-true, ltb-false}
use native.Mathlib.Nat.{mod-le, mul_comm, mul-add, mul-sub, add-mul, zero-mul, add-zero, zero-add}
use native.Mathlib.Omega.{arith}
use Rattle.math.specs.Division.{remainder}
use Rattle.math.proofs.Integers.{up, down, Rep, rep_self, rep_pos, rep_add, rep_minus, rep_mul, rep_agree}
use Rattle.pergen.specs.Spelling.{sounds}
use Rattle.pergen.specs.declared.Spelling.{Spelling}
use Rattle.layout.specs.Layouts.{Layout}
use Rattle.layout.specs.Names.{place_in, key_of}
use Rattle.layout_reach.specs.Reach.{distance}
use Rattle.layout_reach.proofs.Distances.{distance_cong, remainder_again, distances_round_the_octave}
use Rattle.layout_retuning.specs.Retunings.{moved}
use Rattle.layout_retuning.specs.Theorems.{difference, MovesAreBounded}
use Rattle.layout_retuning.proofs.BothLayouts.{Shared, shared, place_shared, second_key}

-- ---- a distance is at most the difference

remainder_most : {z : ℤ} {a b : ℕ} (P : ℕ) → Rep z a b → b ≤ a → remainder z P ≤ a - b
remainder_most {z} {a} {b} P r h =
    let e : z ≡ pos (a - b) = rep_agree r (rep_pos (a - b)) (let q : a + 0 ≡ a - b + b = omega arith in q) in
    subst (λ (y : ℤ). remainder y P ≤ a - b) (sym e) (mod-le (a - b) P)

distance_most : (P : ℕ) (x y : ℤ) (a b : ℕ) → Rep (x -ℤ y) a b → Rep (y -ℤ x) b a → (d : ℕ) → a ≤ b + d → b ≤ a + d → distance P x y ≤ d
unfolding distance
distance_most P x y a b r s d h k = by (ltb a b) refl
  where
    by : (t : Bool) → ltb a b ≡ t → min (remainder (x -ℤ y) P) (remainder (y -ℤ x) P) ≤ d
    by true q = omega (arith, remainder_most P s (let z : a ≤ b = omega (arith, ltb-true a b q) in z))
    by false q = omega (arith, remainder_most P r (ltb-false a b q))

-- ---- a place in two tunings

module _ (P G H : ℕ) (u : ℤ) (s : ℕ) (hP : 0 < P) where
  same_minus : (A B : ℕ) → pos A *ℤ u +ℤ pos s -ℤ (pos B *ℤ u +ℤ pos s) ≡ pos A *ℤ u -ℤ pos B *ℤ u
  same_minus A B =
      rep_agree
      (rep_minus (rep_add (rep_mul A (rep_self u)) (rep_pos s)) (rep_add (rep_mul B (rep_self u)) (rep_pos s)))
      (rep_minus (rep_mul A (rep_self u)) (rep_mul B (rep_self u)))
      (omega arith)

  pub stars_and_octaves_aside : distance P (pos (sounds P G u s)) (pos (sounds P H u s)) ≡ distance P (pos G *ℤ u) (pos H *ℤ u)
  unfolding sounds distance
  stars_and_octaves_aside =
      sym (distance_cong P hP (pos G *ℤ u +ℤ pos s) (pos H *ℤ u +ℤ pos s) (pos (sounds P G u s)) (pos (sounds P H u s))
      (remainder_again P hP (pos G *ℤ u +ℤ pos s)) (remainder_again P hP (pos H *ℤ u +ℤ pos s)))
      ∙ ap₂ (λ (x y : ℤ). min (remainder x P) (remainder y P)) (same_minus G H) (same_minus H G)

-- the sizes of integers, by their parts
size_is : (u : ℤ) → up u + down u ≡ nat_abs u
size_is (pos n) = add-zero n
size_is (negsuc n) = zero-add (suc n)

difference_is : (a b : ℕ) → difference a b ≡ a - b + (b - a)
difference_is a b = by (pos a -ℤ pos b) (rep_minus (rep_pos a) (rep_pos b))
  where
    by : (z : ℤ) → Rep z (a + 0) (0 + b) → nat_abs z ≡ a - b + (b - a)
    by (pos n) r = let q : n ≡ a - b + (b - a) = omega (arith, r.eq) in q
    by (negsuc n) r = let q : suc n ≡ a - b + (b - a) = omega (arith, r.eq) in q

-- G n against H n
times_apart : (G H n : ℕ) → G * n ≤ H * n + n * (G - H + (H - G))
times_apart G H n = omega (arith, mul-add n (G - H) (H - G), mul-sub n G H, mul_comm G n, mul_comm H n)

-- G u against H u, for a place of either sign
at_most : (P G H : ℕ) (u : ℤ) → distance P (pos G *ℤ u) (pos H *ℤ u) ≤ nat_abs u * (G - H + (H - G))
at_most P G H u =
    let D = G - H + (H - G) in
    let same : (n : ℕ) → n * (H - G + (G - H)) ≡ n * D = λ n. ap (λ (x : ℕ). n * x) (let q : H - G + (G - H) ≡ D = omega arith in q) in
    let sum : (up u + down u) * D ≡ up u * D + down u * D = add-mul (up u) (down u) D in
    subst (λ (n : ℕ). distance P (pos G *ℤ u) (pos H *ℤ u) ≤ n * D) (size_is u)
    (distance_most P (pos G *ℤ u) (pos H *ℤ u) (G * up u + H * down u) (G * down u + H * up u)
    (rep_minus (rep_mul G (rep_self u)) (rep_mul H (rep_self u)))
    (turned (rep_minus (rep_mul H (rep_self u)) (rep_mul G (rep_self u))))
    ((up u + down u) * D)
    (omega (arith, sum, times_apart G H (up u), times_apart H G (down u), same (down u)))
    (omega (arith, sum, times_apart G H (down u), times_apart H G (up u), same (up u))))
  where
    turned : {z : ℤ} → Rep z (H * up u + G * down u) (H * down u + G * up u) → Rep z (G * down u + H * up u) (G * up u + H * down u)
    turned r = record { eq = omega (arith, r.eq) }

none_at_zero : (P G H : ℕ) → distance P (pos G *ℤ pos 0) (pos H *ℤ pos 0) ≡ 0
none_at_zero P G H = omega (arith, at_most P G H (pos 0), zero-mul (G - H + (H - G)))

-- ---- the theorem

module _ (l m : Layout) (s : Shared l m) (x : Spelling) where
  abbrev far : ℤ → ℕ
  far u = distance l.octave (pos l.generator *ℤ u) (pos m.generator *ℤ u)

  place_alone : moved l m x ≡ far (place_in l x)
  unfolding moved key_of place_in
  place_alone =
      ap (λ (k : ℕ). distance l.octave (pos (key_of l x)) (pos k)) (second_key l m s x)
      ∙ stars_and_octaves_aside l.octave l.generator m.generator (place_in l x) x.stars s.positive

  most : moved l m x ≤ nat_abs (place_in l x) * difference l.generator m.generator
  most =
      subst (λ (n : ℕ). moved l m x ≤ nat_abs (place_in l x) * n) (sym (difference_is l.generator m.generator))
      (subst (λ (n : ℕ). n ≤ nat_abs (place_in l x) * (l.generator - m.generator + (m.generator - l.generator))) (sym place_alone)
      (at_most l.octave l.generator m.generator (place_in l x)))

  half_octave : 2 * moved l m x ≤ l.octave
  unfolding moved
  half_octave = (distances_round_the_octave l.octave s.positive).half (pos (key_of l x)) (pos (key_of m x))

  pub there_and_back : moved m l x ≡ moved l m x
  unfolding moved
  there_and_back =
      ap (λ (P : ℕ). distance P (pos (key_of m x)) (pos (key_of l x))) s.octave
      ∙ (distances_round_the_octave l.octave s.positive).symmetric (pos (key_of m x)) (pos (key_of l x))

pub moves_are_bounded : MovesAreBounded
unfolding place_in
moves_are_bounded t l m e f x =
    let s = shared t l m e f in
    record {
      one_place = place_shared l m s x;
      bounded = most l m s x;
      half = half_octave l m s x;
      home = λ q. place_alone l m s x ∙ ap (far l m s x) q ∙ none_at_zero l.octave l.generator m.generator;
      by_place = λ y q. place_alone l m s x ∙ ap (far l m s x) q ∙ sym (place_alone l m s y);
      stars_aside = λ stars.
          place_alone l m s x ∙ sym (place_alone l m s (record { index = x.index; signs = x.signs; stars = stars }));
    }
