-- The theorems on each pattern's moves, from what the walk keeps.
use Prim.Native.Nat.{ℕ, ◌+◌, ◌*◌, ◌-◌, ◌/◌, ◌≤◌, ◌<◌}
use mathlib.Core.Path.{◌≡◌, sym, ap, ap₂, ◌∙◌, subst}
use mathlib.Core.List.{[], ◌∷◌}
use native.Mathlib.Nat.{mul-div_cancel, mul-le-mul}
use native.Mathlib.Omega.{arith}
use lib.IntN.{ℤ, pos, neg_ℤ, ◌-ℤ◌}
use mir.Syntax.{w32}
use mir.Val.{to_z, of_z}
use Rattle.mos.specs.declared.Mos.{Mos}
use Rattle.mos.specs.Patterns.{primaries, secondaries, primary, secondary}
use Rattle.mos.proofs.Sizes.{product_fits}
use Rattle.mos_moves.specs.Moves.{Table, row, pattern_moves, SmallTable}
use Rattle.mos_moves.specs.Parts.{OnWalk}
use Rattle.mos_moves.specs.Theorems.{MovesReachTheirSteps, PatternsTellTheirMoves}
use Rattle.mos_moves.proofs.SignedRows.{table_is}
use Rattle.mos_moves.proofs.Going.{Going, u_small, v_small, going_small, going_reaches}
use Rattle.mos_moves.proofs.Walking.{moves_beside_patterns, going_at}

pub moves_reach_their_steps : MovesReachTheirSteps
moves_reach_their_steps P G k m t h lP lG at = going_reaches P G h lP lG m t (going_at P G k m t h at)

-- ---- a pattern's own numbers

module _ (P G : ℕ) (h : 1 ≤ P) (m : Mos) (t : Table ℤ) (g : Going P G m t) where
  pub down_is : (secondaries m * G - primary m) / P ≡ g.u
  down_is = ap (λ (n : ℕ). n / P) (let e : secondaries m * G - primary m ≡ g.u * P = omega (arith, g.first) in e) ∙ mul-div_cancel g.u h

  pub up_is : (primaries m * G + secondary m) / P ≡ g.v
  up_is = ap (λ (n : ℕ). n / P) (sym g.second) ∙ mul-div_cancel g.v h

  pub told : t ≡ pattern_moves P G m
  unfolding pattern_moves
  told =
      g.is
      ∙ sym (ap₂ (λ (u v : ℕ). row (neg_ℤ (pos u)) (pos (secondaries m)) ∷ row (pos v) (neg_ℤ (pos (primaries m))) ∷ []) down_is up_is)

pub patterns_tell_their_moves : PatternsTellTheirMoves
patterns_tell_their_moves P G k m t h at = told P G h m t (going_at P G k m t h at)

-- ---- what the code that goes by these numbers needs

module _ (P G : ℕ) (h : 1 ≤ P) (lP : P ≤ 65535) (lG : G ≤ 65535) (m : Mos) (w : OnWalk P G m) where
  own_going : Going P G m (pattern_moves P G m)
  own_going =
      let found = (moves_beside_patterns P G).some_moves w.0 m w.1 in
      let g = going_at P G w.0 m found.0 h found.1 in
      subst (λ (t : Table ℤ). Going P G m t) (told P G h m found.0 g) g

  pub own_small : SmallTable (pattern_moves P G m)
  own_small = going_small P G h lP lG m (pattern_moves P G m) own_going

  pub first_product : secondaries m * G < 4294967296
  first_product = product_fits (secondaries m) G (omega (arith, own_going.secondaries_fit)) (omega arith)

  pub step_below : primary m ≤ secondaries m * G
  step_below = omega (arith, own_going.first)

  pub second_product : primaries m * G < 4294967296
  second_product = product_fits (primaries m) G (omega (arith, own_going.primaries_fit)) (omega arith)

  pub second_sum : primaries m * G + secondary m < 4294967296
  second_sum =
      let v = own_going.v in
      let e : v * P ≤ 65536 * 65535
      = mul-le-mul (v_small P G h lP lG m (pattern_moves P G m) own_going) lP in
      omega (arith, e, own_going.second)

  pub down_small : (secondaries m * G - primary m) / P ≤ 65536
  down_small =
      omega (arith, down_is P G h m (pattern_moves P G m) own_going, u_small P G h lP lG m (pattern_moves P G m) own_going)

  pub up_small : (primaries m * G + secondary m) / P ≤ 65536
  up_small = omega (arith, up_is P G h m (pattern_moves P G m) own_going, v_small P G h lP lG m (pattern_moves P G m) own_going)

  pub own_table : row (to_z w32 (of_z w32 (pos 0 -ℤ to_z w32 ((secondaries m * G - primary m) / P)))) (to_z w32 (secondaries m))
      ∷ row (to_z w32 ((primaries m * G + secondary m) / P)) (to_z w32 (of_z w32 (pos 0 -ℤ to_z w32 (primaries m))))
      ∷ []
      ≡ pattern_moves P G m
  unfolding pattern_moves
  own_table =
      table_is ((secondaries m * G - primary m) / P) ((primaries m * G + secondary m) / P) (primaries m) (secondaries m) down_small up_small
      (omega (arith, own_going.primaries_fit)) (omega (arith, own_going.secondaries_fit))
