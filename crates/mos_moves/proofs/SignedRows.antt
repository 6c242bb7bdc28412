-- Signed arithmetic of the code at 32 bits is exact: differences of small numbers, and the numbers that the genesis and a pattern tell.
use Prim.Native.Nat.{ℕ, zero, suc, ◌+◌, ◌/◌, ◌≤◌}
use mathlib.Core.Path.{◌≡◌, refl, sym, ap, ap₂, ◌∙◌, subst}
use mathlib.Core.List.{[], ◌∷◌}
use lib.IntN.{ℤ, pos, negsuc, neg_ℤ, nat_abs, ◌+ℤ◌, ◌-ℤ◌, +ℤ_idl}
use mir.Syntax.{w32}
use mir.Val.{SFits, to_z, of_z}
use mir.ValLaws.{to_z_pos}
use native.Mathlib.Nat.{div-le_self}
use native.Mathlib.Omega.{arith}
use Rattle.math.proofs.Integers.{up, down, rep_self, rep_minus, abs_rep}
use Rattle.math.proofs.Signed.{read_back_lem, abs_fits}
use Rattle.mos_moves.specs.Moves.{Row, Table, row, octaves, generators, primary_row, secondary_row, less_row, genesis_moves, SmallRow, SmallTable, numbers_of}

abs_is : (z : ℤ) → nat_abs z ≡ up z + down z
abs_is (pos n) = omega arith
abs_is (negsuc n) = omega arith

module _ (x y : ℤ) (f : nat_abs x ≤ 65536) (g : nat_abs y ≤ 65536) where
  same : to_z w32 (of_z w32 x) -ℤ to_z w32 (of_z w32 y) ≡ x -ℤ y
  same = ap₂ (λ (u v : ℤ). u -ℤ v) (read_back_lem w32 x (abs_fits w32 x (omega arith))) (read_back_lem w32 y (abs_fits w32 y (omega arith)))

  less_fits : SFits w32 (to_z w32 (of_z w32 x) -ℤ to_z w32 (of_z w32 y))
  less_fits =
      subst (λ (z : ℤ). SFits w32 z) (sym same)
      (abs_fits w32 (x -ℤ y) (omega (arith, abs_rep (rep_minus (rep_self x) (rep_self y)), abs_is x, abs_is y)))

  less_is : to_z w32 (of_z w32 (to_z w32 (of_z w32 x) -ℤ to_z w32 (of_z w32 y))) ≡ x -ℤ y
  less_is = read_back_lem w32 _ less_fits ∙ same

-- the row that the code makes
pub octaves_fit : {x y : Row ℤ} → SmallRow x → SmallRow y → SFits w32 (to_z w32 (of_z w32 (octaves x)) -ℤ to_z w32 (of_z w32 (octaves y)))
octaves_fit {x} {y} f g = less_fits (octaves x) (octaves y) f.few_octaves g.few_octaves

pub generators_fit : {x y : Row ℤ} → SmallRow x → SmallRow y → SFits w32 (to_z w32 (of_z w32 (generators x)) -ℤ to_z w32 (of_z w32 (generators y)))
generators_fit {x} {y} f g = less_fits (generators x) (generators y) f.few_generators g.few_generators

pub less_row_is : {x y : Row ℤ} → SmallRow x → SmallRow y
    → row (to_z w32 (of_z w32 (to_z w32 (of_z w32 (octaves x)) -ℤ to_z w32 (of_z w32 (octaves y)))))
    (to_z w32 (of_z w32 (to_z w32 (of_z w32 (generators x)) -ℤ to_z w32 (of_z w32 (generators y)))))
    ≡ less_row x y
unfolding less_row
less_row_is {x} {y} f g =
    ap₂ row (less_is (octaves x) (octaves y) f.few_octaves g.few_octaves)
    (less_is (generators x) (generators y) f.few_generators g.few_generators)

-- a natural number up to 65,536 as a signed one, and minus it
module _ (n : ℕ) (h : n ≤ 65536) where
  pub number_fits : SFits w32 (pos n)
  number_fits = abs_fits w32 (pos n) (omega arith)

  pub number_is : to_z w32 n ≡ pos n
  number_is = to_z_pos w32 n (omega arith)

  abs_neg : (k : ℕ) → nat_abs (neg_ℤ (pos k)) ≡ k
  abs_neg zero = refl
  abs_neg (suc k) = refl

  less : pos 0 -ℤ to_z w32 n ≡ neg_ℤ (pos n)
  less = ap (λ (z : ℤ). pos 0 -ℤ z) number_is ∙ +ℤ_idl (neg_ℤ (pos n))

  pub minus_fits : SFits w32 (pos 0 -ℤ to_z w32 n)
  minus_fits = subst (λ (z : ℤ). SFits w32 z) (sym less) (abs_fits w32 _ (omega (arith, abs_neg n)))

  pub minus_is : to_z w32 (of_z w32 (pos 0 -ℤ to_z w32 n)) ≡ neg_ℤ (pos n)
  minus_is = read_back_lem w32 _ minus_fits ∙ less

-- the genesis
module _ (P G : ℕ) (h : G ≤ 65535) where
  pub q_small : G / P ≤ 65536
  q_small = omega (arith, div-le_self G P)

  more : pos 1 +ℤ to_z w32 (G / P) ≡ pos (1 + G / P)
  more = ap (λ (z : ℤ). pos 1 +ℤ z) (number_is (G / P) q_small)

  pub plus_fits : SFits w32 (pos 1 +ℤ to_z w32 (G / P))
  plus_fits = subst (λ (z : ℤ). SFits w32 z) (sym more) (abs_fits w32 (pos (1 + G / P)) (omega (arith, q_small)))

  pub genesis_is : row (to_z w32 (of_z w32 (pos 0 -ℤ to_z w32 (G / P)))) (pos 1) ∷ row (to_z w32 (of_z w32 (pos 1 +ℤ to_z w32 (G / P)))) (negsuc 0) ∷ []
      ≡ genesis_moves P G
  unfolding genesis_moves
  genesis_is =
      ap₂ (λ (x y : ℤ). row x (pos 1) ∷ row y (negsuc 0) ∷ []) (minus_is (G / P) q_small) (read_back_lem w32 _ plus_fits ∙ more)

-- a pattern's own numbers: u octaves down, b generators up, v octaves up, a generators down
pub table_is : (u v a b : ℕ) → u ≤ 65536 → v ≤ 65536 → a ≤ 65536 → b ≤ 65536
    → row (to_z w32 (of_z w32 (pos 0 -ℤ to_z w32 u))) (to_z w32 b) ∷ row (to_z w32 v) (to_z w32 (of_z w32 (pos 0 -ℤ to_z w32 a))) ∷ []
    ≡ row (neg_ℤ (pos u)) (pos b) ∷ row (pos v) (neg_ℤ (pos a)) ∷ []
table_is u v a b hu hv ha hb =
    ap₂ (λ (x y : ℤ). row x (to_z w32 b) ∷ row (to_z w32 v) y ∷ []) (minus_is u hu) (minus_is a ha)
    ∙ ap₂ (λ (x y : ℤ). row (neg_ℤ (pos u)) x ∷ row y (neg_ℤ (pos a)) ∷ []) (number_is b hb) (number_is v hv)

-- a table's numbers as a slice holds them
pub numbers_read : (t : Table ℤ) → SmallTable t
    → to_z w32 (of_z w32 (octaves (primary_row t))) ∷ to_z w32 (of_z w32 (generators (primary_row t)))
    ∷ to_z w32 (of_z w32 (octaves (secondary_row t))) ∷ to_z w32 (of_z w32 (generators (secondary_row t))) ∷ []
    ≡ numbers_of t
numbers_read t s =
    ap₂ (λ (x y : ℤ). x ∷ y ∷ to_z w32 (of_z w32 (octaves (secondary_row t))) ∷ to_z w32 (of_z w32 (generators (secondary_row t))) ∷ [])
    (small_read s.primary_small.few_octaves) (small_read s.primary_small.few_generators)
    ∙ ap₂ (λ (x y : ℤ). octaves (primary_row t) ∷ generators (primary_row t) ∷ x ∷ y ∷ [])
    (small_read s.secondary_small.few_octaves) (small_read s.secondary_small.few_generators)
  where
    small_read : {z : ℤ} → nat_abs z ≤ 65536 → to_z w32 (of_z w32 z) ≡ z
    small_read {z} h = read_back_lem w32 z (abs_fits w32 z (omega arith))
