-- Coordinates and indices: what one comparison gives, and that all numbers are small enough for their types.
use Rattle.std.specs.Prelude.{Option}
use Prim.Native.Nat.{ℕ, zero, suc, ◌+◌, ◌-◌, ◌%◌, ◌≤◌, ◌<◌}
use mathlib.Core.Path.{◌≡◌, refl, sym, ap, ◌∙◌}
use mathlib.Core.Bool.{Bool, true, false}
use lib.Dec.{ltb, leb, eqb}
use lib.IntN.{ℤ, pos, negsuc, ◌-ℤ◌}
use borrow.Author.Tests.{le-leb, lt-leb, eqb-true, ltb-true, ltb-false, leb-true, leb-false}
use native.Mathlib.Nat.{mod-lt, mod-eq_of_lt}
use native.Mathlib.Omega.{arith}
use Rattle.answer.specs.Choice.{pick}
use Rattle.math.specs.Division.{remainder}
use Rattle.math.proofs.Integers.{Rep, rep_self, rep_pos, rep_minus, rep_agree}
use Rattle.math.proofs.Division.{remainder_below}
use Rattle.pergen.specs.Spelling.{sharp_coordinate, flat_coordinate, by_coordinates, low_sharp_index, low_flat_index, by_indices, accidentals_of}

-- ---- R at least N

pub sharp_first_lem : (R d : ℕ) → d < R → d ≡ sharp_coordinate R d
unfolding sharp_coordinate
sharp_first_lem R d h = sym (mod-eq_of_lt h)

-- N − 1 − d, for either sign
pub flat_rep : (N d : ℕ) → Rep (pos N -ℤ pos 1 -ℤ pos d) (N + 0 + 0) (0 + 1 + d)
flat_rep N d = rep_minus (rep_minus (rep_pos N) (rep_pos 1)) (rep_pos d)

pub flat_inside : (R N d : ℕ) → zero < N → N ≤ R → d ≤ N - 1 → N - 1 - d ≡ flat_coordinate R N d
unfolding flat_coordinate
flat_inside R N d some h k =
    sym (mod-eq_of_lt (let q : N - 1 - d < R = omega arith in q))
    ∙ ap (λ (z : ℤ). remainder z R)
    (rep_agree (rep_pos (N - 1 - d)) (flat_rep N d) (let q : N - 1 - d + (0 + 1 + d) ≡ N + 0 + 0 + 0 = omega arith in q))

pub flat_past : (R N d : ℕ) → zero < N → N - 1 < d → d + 1 < N + R → R + (N - 1) - d ≡ flat_coordinate R N d
unfolding flat_coordinate
flat_past R N d some h k =
    let e : (d - N) % R ≡ d - N = mod-eq_of_lt (let q : d - N < R = omega arith in q) in
    (let q : R + (N - 1) - d ≡ R - suc (d - N) = omega arith in q)
    ∙ ap (λ (x : ℕ). R - suc x) (sym e)
    ∙ ap (λ (z : ℤ). remainder z R)
    (rep_agree (rep_self (negsuc (d - N))) (flat_rep N d) (let q : 0 + (0 + 1 + d) ≡ N + 0 + 0 + suc (d - N) = omega arith in q))

pub sharp_below : (R d : ℕ) → zero < R → sharp_coordinate R d < R
unfolding sharp_coordinate
sharp_below R d h = mod-lt d h

pub flat_below : (R N d : ℕ) → zero < R → flat_coordinate R N d < R
unfolding flat_coordinate
flat_below R N d h = remainder_below (pos N -ℤ pos 1 -ℤ pos d) R h

-- ---- R below N

-- the index is d or d − R, and below N
pub record LowIndex (R N d x : ℕ) : Type 0 where
  pub near : (b : Bool) × (x ≡ pick b (d - R) d) × (pick b R 0 ≤ d)
  pub below : x < N

pub low_sharp : (R N o e : ℕ) → o < N → e < R → R < N → LowIndex R N (o + e) (low_sharp_index R N (o + e))
unfolding low_sharp_index
low_sharp R N o e ho he h = go (leb N (o + e)) refl
  where
    go : (b : Bool) → leb N (o + e) ≡ b → LowIndex R N (o + e) (pick b (o + e - R) (o + e))
    go true q = let l : N ≤ o + e = leb-true N (o + e) q in record { near = (true, refl, omega arith); below = omega arith }
    go false q = let l : o + e < N = leb-false N (o + e) q in record { near = (false, refl, omega arith); below = l }

pub low_flat : (R N o e : ℕ) → o < N → e < R → R < N → LowIndex R N (o + e) (low_flat_index R (o + e) e)
unfolding low_flat_index
low_flat R N o e ho he h = go (eqb e 0) (ltb (o + e) R) refl refl
  where
    go : (b b' : Bool) → eqb e 0 ≡ b → ltb (o + e) R ≡ b' → LowIndex R N (o + e) (pick b (o + e) (pick b' (o + e) (o + e - R)))
    go true b' u v = let z : e ≡ 0 = eqb-true e 0 u in record { near = (false, refl, omega arith); below = omega arith }
    go false true u v =
        let z : o + e < R = ltb-true (o + e) R v in record { near = (false, refl, omega arith); below = omega arith }
    go false false u v =
        let z : R ≤ o + e = ltb-false (o + e) R v in record { near = (true, refl, z); below = omega arith }

-- ---- both branches, for the code

module _ (R N o e : ℕ) (c : Option ℕ) where
  pub accidentals_low : R < N → (x y : ℕ) → x ≡ low_sharp_index R N (o + e) → y ≡ low_flat_index R (o + e) e → by_indices c x y ≡ accidentals_of R N o e c
  unfolding accidentals_of
  accidentals_low h x y p q = rw (p, q, lt-leb N R h)

  pub accidentals_high : N ≤ R → (x y : ℕ) → x ≡ sharp_coordinate R (o + e) → y ≡ flat_coordinate R N (o + e)
      → by_coordinates c N x y ≡ accidentals_of R N o e c
  unfolding accidentals_of
  accidentals_high h x y p q = rw (p, q, le-leb N R h)

pub low_sharp_small : (R N o e x : ℕ) → x ≡ low_sharp_index R N (o + e) → o < N → e < R → R < N → x < N
low_sharp_small R N o e x q ho he h = rw q (low_sharp R N o e ho he h).below

pub low_flat_small : (R N o e x : ℕ) → x ≡ low_flat_index R (o + e) e → o < N → e < R → R < N → x < N
low_flat_small R N o e x q ho he h = rw q (low_flat R N o e ho he h).below

pub sharp_small : (R d x : ℕ) → x ≡ sharp_coordinate R d → zero < R → x < R
sharp_small R d x q h = rw q (sharp_below R d h)

pub flat_small : (R N d x : ℕ) → x ≡ flat_coordinate R N d → zero < R → x < R
flat_small R N d x q h = rw q (flat_below R N d h)
