-- The sign of the sharpness says which step is the longer, and so which name the scale has.
use Prim.Native.Nat.{ℕ, suc, ◌+◌, ◌<◌}
use mathlib.Core.Path.{◌≡◌, sym, ap, ◌∙◌, subst}
use native.Mathlib.Omega.{arith}
use lib.IntN.{ℤ, pos, negsuc}
use borrow.Author.Tests.{lt-ltb, le-ltb}
use Rattle.answer.specs.Outcome.{given}
use Rattle.math.proofs.Integers.{Rep, rep_pos, rep_neg, rep_minus, rep_same}
use Rattle.mos.specs.declared.Mos.{Mos}
use Rattle.mos.specs.Patterns.{primary, secondary, sharpness_of}
use Rattle.genchain.specs.Chains.{chain_of, equalized}
use Rattle.layout.specs.ScaleNames.{scale_name}
use Rattle.layout.proofs.Calls.{scale_given}
use Rattle.layout_scale_names.specs.Theorems.{ScaleNamesGoBySharpness}

module _ (m : Mos) where
  -- the sharpness is the one step less the other
  difference : {z : ℤ} → sharpness_of m ≡ z → Rep z (primary m + 0) (0 + secondary m)
  difference e =
      subst (λ (z : ℤ). Rep z (primary m + 0) (0 + secondary m)) e (rep_minus (rep_pos (primary m)) (rep_pos (secondary m)))

  longer_primary : (k : ℕ) → sharpness_of m ≡ pos (suc k) → secondary m < primary m
  longer_primary k e = omega (arith, rep_same (difference e) (rep_pos (suc k)))

  longer_secondary : (k : ℕ) → sharpness_of m ≡ negsuc k → primary m < secondary m
  longer_secondary k e = omega (arith, rep_same (difference e) (rep_neg (rep_pos (suc k))))

  equal_steps : sharpness_of m ≡ pos 0 → primary m ≡ secondary m
  equal_steps e = omega (arith, rep_same (difference e) (rep_pos 0))

module _ (code : ℕ) (m : Mos) where
  name_above : secondary m < primary m → scale_name code m ≡ (chain_of code).scale_above
  unfolding scale_name
  name_above h = simp (lt-ltb _ _ h)

  name_below : primary m < secondary m → scale_name code m ≡ (chain_of code).scale_below
  unfolding scale_name
  name_below h = simp (le-ltb (secondary m) (primary m) (omega arith), lt-ltb _ _ h)

  name_equal : primary m ≡ secondary m → scale_name code m ≡ equalized
  unfolding scale_name
  name_equal h = simp (le-ltb (secondary m) (primary m) (omega arith), le-ltb (primary m) (secondary m) (omega arith))

pub scale_names_go_by_sharpness : ScaleNamesGoBySharpness
scale_names_go_by_sharpness r l a =
    record {
      above = λ k e. sym (scale_given r l (sym a)) ∙ ap given (name_above l.chain l.pattern (longer_primary l.pattern k e));
      below = λ k e. sym (scale_given r l (sym a)) ∙ ap given (name_below l.chain l.pattern (longer_secondary l.pattern k e));
      at_zero = λ e. sym (scale_given r l (sym a)) ∙ ap given (name_equal l.chain l.pattern (equal_steps l.pattern e));
    }
