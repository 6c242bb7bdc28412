-- The distance of two keys of the octave is their gap or the octave less it, whichever is smaller; of any keys only the remainders by the
-- octave matter.
use Prim.Native.Nat.{ℕ, ◌+◌, ◌*◌, ◌-◌, ◌%◌, ◌≤◌, ◌<◌, min}
use mathlib.Core.Path.{◌≡◌, refl, sym, ap, ap₂, ◌∙◌, subst}
use mathlib.Core.Bool.{Bool, true, false}
use lib.Dec.{ltb}
use lib.IntN.{ℤ, pos, ◌-ℤ◌}
use borrow.Author.Tests.{ltb-true, ltb-false}
use native.Mathlib.Nat.{mod-eq_of_lt}
use native.Mathlib.Omega.{arith}
use Rattle.math.specs.Division.{remainder}
use Rattle.math.proofs.Congruence.{add_cong}
use Rattle.math.proofs.Integers.{up, down, rep_self, rep_minus}
use Rattle.math.proofs.Division.{remainder_below, remainders_agree, remainder→apart, apart→remainder}
use Rattle.pergen.proofs.Differences.{remainder_above, remainder_below_zero}
use Rattle.layout_reach.specs.Reach.{distance}
use Rattle.layout_reach.specs.Theorems.{RoundTheOctave, DistancesRoundTheOctave}

-- ---- two keys of the octave

up_is : (P a b : ℕ) → b ≤ a → a < P → remainder (pos a -ℤ pos b) P ≡ a - b
up_is P a b h l = sym (remainder_above a b P h) ∙ mod-eq_of_lt (let z : a - b < P = omega arith in z)

down_is : (P a b : ℕ) → a < b → b < P → remainder (pos a -ℤ pos b) P ≡ P - (b - a)
down_is P a b h l =
    let e : (b - a - 1) % P ≡ b - a - 1 = mod-eq_of_lt (let z : b - a - 1 < P = omega arith in z) in
    sym (remainder_below_zero a b P h) ∙ (let z : P - 1 - (b - a - 1) % P ≡ P - (b - a) = omega (arith, e) in z)

-- the gap of two numbers: one of the two differences is 0
abbrev pub gap : ℕ → ℕ → ℕ
gap a b = a - b + (b - a)

pub distance_is : (P a b : ℕ) → a < P → b < P → distance P (pos a) (pos b) ≡ min (gap a b) (P - gap a b)
unfolding distance
distance_is P a b ha hb = by (ltb a b) (ltb b a) refl refl
  where
    by : (t u : Bool) → ltb a b ≡ t → ltb b a ≡ u
        → min (remainder (pos a -ℤ pos b) P) (remainder (pos b -ℤ pos a) P) ≡ min (gap a b) (P - gap a b)
    by true u q r = let l : a < b = ltb-true a b q in omega (arith, down_is P a b l hb, up_is P b a (omega arith) hb)
    by false true q r = let l : b < a = ltb-true b a r in omega (arith, up_is P a b (omega arith) ha, down_is P b a l ha)
    by false false q r =
        let l : b ≤ a = ltb-false a b q in
        let k : a ≤ b = ltb-false b a r in
        omega (arith, up_is P a b l ha, up_is P b a k hb)

-- ---- any keys

module _ (P : ℕ) (h : 0 < P) where
  difference_cong : (x y x' y' : ℤ) → remainder x P ≡ remainder x' P → remainder y P ≡ remainder y' P
      → remainder (x -ℤ y) P ≡ remainder (x' -ℤ y') P
  difference_cong x y x' y' ex ey =
      (remainders_agree P h (rep_minus (rep_self x) (rep_self y)) (rep_minus (rep_self x') (rep_self y'))).1
      (ap (λ (z : ℕ). z % P) (let z : up x + down y + (down x' + up y') ≡ up x + down x' + (down y + up y') = omega arith in z)
      ∙ add_cong P (down y + up y') (up x + down x') (up x' + down x) ((remainders_agree P h (rep_self x) (rep_self x')).0 ex)
      ∙ ap (λ (z : ℕ). z % P) (let z : up x' + down x + (down y + up y') ≡ up y' + down y + (up x' + down x) = omega arith in z)
      ∙ add_cong P (up x' + down x) (up y' + down y) (up y + down y') (sym ((remainders_agree P h (rep_self y) (rep_self y')).0 ey))
      ∙ ap (λ (z : ℕ). z % P) (let z : up y + down y' + (up x' + down x) ≡ up x' + down y' + (down x + up y) = omega arith in z))

  pub distance_cong : (x y x' y' : ℤ) → remainder x P ≡ remainder x' P → remainder y P ≡ remainder y' P → distance P x y ≡ distance P x' y'
  unfolding distance
  distance_cong x y x' y' ex ey =
      ap₂ (λ (u v : ℕ). min u v) (difference_cong x y x' y' ex ey) (difference_cong y x y' x' ey ex)

  pub round_below : (key : ℤ) (k : ℕ) → k ≡ remainder key P → k < P
  round_below key k round = omega (arith, round, remainder_below key P h)

  pub remainder_again : (z : ℤ) → remainder z P ≡ remainder (pos (remainder z P)) P
  remainder_again z = sym (mod-eq_of_lt (remainder_below z P h))

  -- a key of any octave, brought within the octave
  pub distance_key : (a : ℕ) (key : ℤ) → distance P (pos a) key ≡ distance P (pos a) (pos (remainder key P))
  distance_key a key = distance_cong (pos a) key (pos a) (pos (remainder key P)) refl (remainder_again key)

  -- so by the gap of the two remainders
  distance_gap : (x y : ℤ) → distance P x y ≡ min (gap (remainder x P) (remainder y P)) (P - gap (remainder x P) (remainder y P))
  distance_gap x y =
      distance_cong x y (pos (remainder x P)) (pos (remainder y P)) (remainder_again x) (remainder_again y)
      ∙ distance_is P (remainder x P) (remainder y P) (remainder_below x P h) (remainder_below y P h)

  gap_below : (a b : ℕ) → a < P → b < P → gap a b < P
  gap_below a b ha hb = omega arith

  half_gap : (g : ℕ) → 2 * min g (P - g) ≤ P
  half_gap g = omega arith

  no_gap : (g : ℕ) → g < P → min g (P - g) ≡ 0 → g ≡ 0
  no_gap g l e = omega arith

  same : (a b : ℕ) → gap a b ≡ 0 → a ≡ b
  same a b e = omega arith

  own : (a : ℕ) → min (gap a a) (P - gap a a) ≡ 0
  own a = omega arith

  swapped : (x y : ℤ) → distance P x y ≡ distance P y x
  unfolding distance
  swapped x y = smaller (remainder (x -ℤ y) P) (remainder (y -ℤ x) P)
    where
      smaller : (a b : ℕ) → min a b ≡ min b a
      smaller a b = omega arith

  round_the_octave : RoundTheOctave P
  round_the_octave =
      record {
        symmetric = swapped;
        half = λ x y. subst (λ (n : ℕ). 2 * n ≤ P) (sym (distance_gap x y)) (half_gap _);
        none = λ x y. (
          λ e. remainder→apart P h x y
              (same _ _ (no_gap _ (gap_below _ _ (remainder_below x P h) (remainder_below y P h)) (sym (distance_gap x y) ∙ e))),
          λ a. distance_cong x y y y (apart→remainder P h x y a) refl ∙ distance_gap y y ∙ own (remainder y P),
        );
        octaves_aside = λ x y z a. distance_cong x z y z (apart→remainder P h x y a) refl;
      }

pub distances_round_the_octave : DistancesRoundTheOctave
distances_round_the_octave P h = round_the_octave P h
