-- What each pattern of the walk keeps, over naturals: the generators are the other row's count, the octaves are −u and v.
use Rattle.std.specs.Prelude.{Some}
use Prim.Native.Nat.{ℕ, zero, suc, ◌+◌, ◌*◌, ◌-◌, ◌/◌, ◌≤◌, ◌<◌}
use mathlib.Core.Path.{◌≡◌, refl, sym, ap, ap₂, ◌∙◌, subst}
use mathlib.Core.Bool.{true}
use mathlib.Core.List.{[], ◌∷◌}
use lib.IntN.{ℤ, pos, negsuc, neg_ℤ, nat_abs, ◌+ℤ◌, ◌-ℤ◌, ◌*ℤ◌, *ℤ_comm, zero-*ℤ, *ℤ-zero, negsuc-*ℤ-negsuc}
use borrow.Author.Tests.{lt-ltb, le-ltb}
use native.Mathlib.Nat.{mul-add, add-mul, mul-le-mul_right, le_of_mul-le-mul_right, mul_comm, div-add-mod', mod-lt, one-mul, mul-one, zero-mul, mul-zero}
use native.Mathlib.Omega.{arith}
use Rattle.mos.specs.declared.Mos.{Mos}
use Rattle.mos.specs.Patterns.{mos, primaries, secondaries, primary, secondary, count_of, size_of, is_pattern, genesis, child_of}
use Rattle.mos.proofs.Sizes.{fits_pattern, counts_fit}
use Rattle.mos.proofs.Descent.{Child, longer_primary, longer_secondary, child_at, child_keeps_size, child_steps}
use Rattle.mos.proofs.Theorems.{genesis_size}
use Rattle.mos_moves.specs.Moves.{Row, Table, row, primary_row, secondary_row, less_row, child_moves, genesis_moves, reached, determinant, SmallTable}
use Rattle.mos_moves.specs.Theorems.{BoardMoves}
use Rattle.math.proofs.Integers.{rep_self, rep_pos, rep_neg, rep_add, rep_minus, rep_mul, rep_agree}

-- ---- signs

neg_less : (u v : ℕ) → neg_ℤ (pos u) -ℤ pos v ≡ neg_ℤ (pos (u + v))
neg_less u v = rep_agree (rep_minus (rep_neg (rep_pos u)) (rep_pos v)) (rep_neg (rep_pos (u + v))) (omega arith)

pos_less : (u v : ℕ) → pos u -ℤ neg_ℤ (pos v) ≡ pos (u + v)
pos_less u v = rep_agree (rep_minus (rep_pos u) (rep_neg (rep_pos v))) (rep_pos (u + v)) (omega arith)

-- ---- the child's table, by what the code tests

module _ (m : Mos) (t : Table ℤ) where
  pub moves_longer_primary : {r : Row ℤ} → secondary m < primary m → r ≡ less_row (primary_row t) (secondary_row t) → r ∷ secondary_row t ∷ [] ≡ child_moves m t
  unfolding child_moves
  moves_longer_primary h e = simp (lt-ltb _ _ h, e)

  pub moves_longer_secondary : {r : Row ℤ} → primary m ≤ secondary m → r ≡ less_row (secondary_row t) (primary_row t) → primary_row t ∷ r ∷ [] ≡ child_moves m t
  unfolding child_moves
  moves_longer_secondary h e = simp (le-ltb _ _ h, e)

-- ---- what the walk keeps

-- the table of a pattern whose octaves are −u and v
abbrev pub shape : Mos → ℕ → ℕ → Table ℤ
shape m u v = row (neg_ℤ (pos u)) (pos (secondaries m)) ∷ row (pos v) (neg_ℤ (pos (primaries m))) ∷ []

pub record Going (P G : ℕ) (m : Mos) (t : Table ℤ) : Type 0 where
  pub u : ℕ
  pub v : ℕ
  pub is : t ≡ shape m u v
  pub first : secondaries m * G ≡ u * P + primary m
  pub second : v * P ≡ primaries m * G + secondary m
  pub unit : v * secondaries m ≡ u * primaries m + 1
  pub size : size_of m ≡ P
  pub primaries_fit : primaries m ≤ P
  pub secondaries_fit : secondaries m ≤ P
  pub step_fits : secondary m ≤ P

pub going_genesis : (P G : ℕ) → 1 ≤ P → Going P G (genesis P G) (genesis_moves P G)
unfolding genesis_moves
going_genesis P G h =
    record {
      u = G / P;
      v = 1 + G / P;
      is = refl;
      first = omega (arith, one-mul G, div-add-mod' G P);
      second = omega (arith, one-mul G, add-mul 1 (G / P) P, one-mul P, div-add-mod' G P, mod-lt G h);
      unit = omega (arith, mul-one (1 + G / P), mul-one (G / P));
      size = genesis_size P G h;
      primaries_fit = h;
      secondaries_fit = h;
      step_fits = omega arith;
    }

shape_primary : (m : Mos) (u v : ℕ) → secondary m < primary m
    → child_moves m (shape m u v) ≡ shape (mos (primaries m) (count_of m) (primary m - secondary m) (secondary m)) (u + v) v
unfolding less_row
shape_primary m u v h =
    sym (moves_longer_primary m (shape m u v) h refl)
    ∙ ap₂ (λ (x y : ℤ). row x y ∷ row (pos v) (neg_ℤ (pos (primaries m))) ∷ []) (neg_less u v)
    (pos_less (secondaries m) (primaries m) ∙ ap pos (omega arith))

shape_secondary : (m : Mos) (u v : ℕ) → primary m ≤ secondary m
    → child_moves m (shape m u v) ≡ shape (mos (count_of m) (secondaries m) (primary m) (secondary m - primary m)) u (v + u)
unfolding less_row
shape_secondary m u v h =
    sym (moves_longer_secondary m (shape m u v) h refl)
    ∙ ap₂ (λ (x y : ℤ). row (neg_ℤ (pos u)) (pos (secondaries m)) ∷ row x y ∷ []) (pos_less v u) (neg_less (primaries m) (secondaries m))

going_on : (P G : ℕ) (m c : Mos) (t : Table ℤ) → Child m (Some c) → size_of c ≡ P → count_of c ≤ P → Going P G m t → Going P G c (child_moves m t)
going_on P G m c t (longer_primary z h) s n g =
    record {
      u = g.u + g.v;
      v = g.v;
      is = ap (child_moves m) g.is ∙ shape_primary m g.u g.v h;
      first = omega (arith, add-mul (primaries m) (secondaries m) G, add-mul g.u g.v P, g.first, g.second);
      second = g.second;
      unit = omega (arith, mul-add g.v (primaries m) (secondaries m), add-mul g.u g.v (primaries m), g.unit);
      size = s;
      primaries_fit = omega arith;
      secondaries_fit = omega arith;
      step_fits = omega (arith, g.step_fits);
    }
going_on P G m c t (longer_secondary z h) s n g =
    record {
      u = g.u;
      v = g.v + g.u;
      is = ap (child_moves m) g.is ∙ shape_secondary m g.u g.v (omega arith);
      first = g.first;
      second = omega (arith, add-mul (primaries m) (secondaries m) G, add-mul g.v g.u P, g.first, g.second);
      unit = omega (arith, mul-add g.u (primaries m) (secondaries m), add-mul g.v g.u (secondaries m), g.unit);
      size = s;
      primaries_fit = omega arith;
      secondaries_fit = omega arith;
      step_fits = omega (arith, g.step_fits);
    }

pub going_child : (P G : ℕ) (m c : Mos) (t : Table ℤ) → child_of m ≡ Some c → Going P G m t → Going P G c (child_moves m t)
going_child P G m c t e g =
    let s : size_of c ≡ P = child_keeps_size (child_at e) ∙ g.size in
    going_on P G m c t (child_at e) s (omega (arith, counts_fit c (child_steps (child_at e)).0 (child_steps (child_at e)).1)) g

-- ---- over the integers

neg_times_neg : (u a : ℕ) → neg_ℤ (pos u) *ℤ neg_ℤ (pos a) ≡ pos (u * a)
neg_times_neg zero a = zero-*ℤ (neg_ℤ (pos a)) ∙ ap pos (omega (arith, zero-mul a))
neg_times_neg (suc u) zero = *ℤ-zero (negsuc u) ∙ ap pos (omega (arith, mul-zero (suc u)))
neg_times_neg (suc u) (suc a) = negsuc-*ℤ-negsuc u a

first_reached : (u P b G p : ℕ) → b * G ≡ u * P + p → neg_ℤ (pos u) *ℤ pos P +ℤ pos b *ℤ pos G ≡ pos p
first_reached u P b G p e =
    ap (λ (z : ℤ). z +ℤ pos (b * G)) (*ℤ_comm (neg_ℤ (pos u)) (pos P))
    ∙ rep_agree (rep_add (rep_mul P (rep_neg (rep_pos u))) (rep_pos (b * G))) (rep_pos p)
    (omega (arith, mul_comm P u, mul-zero P))

second_reached : (v P a G s : ℕ) → v * P ≡ a * G + s → pos v *ℤ pos P +ℤ neg_ℤ (pos a) *ℤ pos G ≡ pos s
second_reached v P a G s e =
    ap (λ (z : ℤ). pos (v * P) +ℤ z) (*ℤ_comm (neg_ℤ (pos a)) (pos G))
    ∙ rep_agree (rep_add (rep_pos (v * P)) (rep_mul G (rep_neg (rep_pos a)))) (rep_pos s)
    (omega (arith, mul_comm G a, mul-zero G))

determined : (u v a b : ℕ) → v * b ≡ u * a + 1 → neg_ℤ (pos u) *ℤ neg_ℤ (pos a) -ℤ pos b *ℤ pos v ≡ negsuc 0
determined u v a b e =
    ap (λ (z : ℤ). z -ℤ pos (b * v)) (neg_times_neg u a)
    ∙ rep_agree (rep_minus (rep_pos (u * a)) (rep_pos (b * v))) (rep_self (negsuc 0)) (omega (arith, mul_comm b v))

abs_neg : (n : ℕ) → nat_abs (neg_ℤ (pos n)) ≡ n
abs_neg zero = refl
abs_neg (suc n) = refl

module _ (P G : ℕ) (hP : 1 ≤ P) (lP : P ≤ 65535) (lG : G ≤ 65535) (m : Mos) (t : Table ℤ) (g : Going P G m t) where
  pub u_small : g.u ≤ 65535
  u_small =
      let e : g.u * P ≤ G * P = omega (arith, g.first, mul_comm G P, mul-le-mul_right G g.secondaries_fit) in
      omega (arith, le_of_mul-le-mul_right e hP)

  pub v_small : g.v ≤ 65536
  v_small =
      let e : g.v * P ≤ (G + 1) * P
      = omega (arith, g.second, g.step_fits, mul_comm G P, add-mul G 1 P, one-mul P, mul-le-mul_right G g.primaries_fit) in
      omega (arith, le_of_mul-le-mul_right e hP)

  pub going_pattern : is_pattern m ≡ true
  going_pattern = fits_pattern m (omega (arith, g.size))

  pub going_small : SmallTable t
  going_small =
      subst SmallTable (sym g.is)
      (record {
        primary_small = record { few_octaves = omega (arith, abs_neg g.u, u_small); few_generators = omega (arith, g.secondaries_fit) };
        secondary_small = record { few_octaves = omega (arith, v_small); few_generators = omega (arith, abs_neg (primaries m), g.primaries_fit) };
      })

  pub going_reaches : BoardMoves P G m t
  going_reaches =
      record {
        primary_reached = ap (λ (x : Table ℤ). reached P G (primary_row x)) g.is ∙ first_reached g.u P (secondaries m) G (primary m) g.first;
        secondary_reached = ap (λ (x : Table ℤ). reached P G (secondary_row x)) g.is ∙ second_reached g.v P (primaries m) G (secondary m) g.second;
        determinant_kept = ap determinant g.is ∙ determined g.u g.v (primaries m) (secondaries m) g.unit;
        small = going_small;
      }
