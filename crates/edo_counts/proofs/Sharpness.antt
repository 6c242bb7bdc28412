-- The side on which a pattern is counted is that of its sharpness.
use Prim.Native.Nat.{ℕ, suc, ◌+◌, ◌-◌, ◌<◌}
use native.Mathlib.Omega.{arith}
use mathlib.Core.Path.{◌≡◌, subst}
use lib.IntN.{ℤ, pos, negsuc, ◌-ℤ◌}
use borrow.Author.Tests.{ltb-true, eqb-true, lt-ltb, eq-eqb}
use Rattle.math.proofs.Integers.{Rep, rep_pos, rep_neg, rep_minus, rep_agree}
use Rattle.mos.specs.Patterns.{primary, secondary}
use Rattle.edo_counts.specs.Theorems.{SidesAreSharpness}

module _ (p s : ℕ) where
  difference : Rep (pos p -ℤ pos s) (p + 0) (0 + s)
  difference = rep_minus (rep_pos p) (rep_pos s)

  -- what the difference is tells how the two compare
  told : (z : ℤ) → pos p -ℤ pos s ≡ z → Rep z (p + 0) (0 + s)
  told z e = subst (λ (x : ℤ). Rep x (p + 0) (0 + s)) e difference

  more : s < p → (k : ℕ) × (pos p -ℤ pos s ≡ pos (suc k))
  more h = (p - s - 1, rep_agree difference (rep_pos (suc (p - s - 1))) (omega arith))

  more_told : (k : ℕ) → pos p -ℤ pos s ≡ pos (suc k) → s < p
  more_told k e = omega (arith, (told (pos (suc k)) e).eq)

  less : p < s → (k : ℕ) × (pos p -ℤ pos s ≡ negsuc k)
  less h = (s - p - 1, rep_agree difference (rep_neg (rep_pos (suc (s - p - 1)))) (omega arith))

  less_told : (k : ℕ) → pos p -ℤ pos s ≡ negsuc k → p < s
  less_told k e = omega (arith, (told (negsuc k) e).eq)

  same : p ≡ s → pos p -ℤ pos s ≡ pos 0
  same e = rep_agree difference (rep_pos 0) (omega arith)

  same_told : pos p -ℤ pos s ≡ pos 0 → p ≡ s
  same_told e = omega (arith, (told (pos 0) e).eq)

pub sides_are_sharpness : SidesAreSharpness
sides_are_sharpness m =
    let p = primary m in
    let s = secondary m in
    record {
      above = (λ e. more p s (ltb-true s p e), λ e. lt-ltb s p (more_told p s e.0 e.1));
      below = (λ e. less p s (ltb-true p s e), λ e. lt-ltb p s (less_told p s e.0 e.1));
      equal = (λ e. same p s (eqb-true p s e), λ e. eq-eqb p s (same_told p s e));
    }
