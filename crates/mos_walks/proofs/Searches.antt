-- The search for a pattern with n steps, by what the code tests. Counts only grow along the walk, so it may stop past n.
use Rattle.std.specs.Prelude.{Option, None, Some}
use mathlib.Core.Path.{◌≡◌, refl, ap, sym, ◌∙◌}
use Prim.Native.Nat.{ℕ, zero, suc, ◌≤◌, ◌<◌}
use native.Mathlib.Nat.{le_refl}
use native.Mathlib.Omega.{arith}
use borrow.Author.Tests.{eq-eqb, ne_eqb}
use Rattle.mos.specs.declared.Mos.{Mos}
use Rattle.mos.specs.Patterns.{count_of, steps_of, child_of}
use Rattle.mos.specs.Walks.{onward, children, first_with}
use Rattle.mos.proofs.Descent.{Child, child_view, child_falls, child_counts}
use Rattle.mos.proofs.Sequences.{children_follow, children_next, children_end}

-- past n there is nothing: by the fall of the steps
past_rest : (n : ℕ) (m : Mos) (o : Option Mos) → Child m o → n < count_of m → ((c : Mos) → steps_of c < steps_of m → n < count_of c → first_with n (children c) ≡ None)
    → first_with n (onward o children) ≡ None
past_rest n m None v l ih = refl
past_rest n m (Some c) v l ih = ih c (child_falls v) (omega (arith, child_counts v))

past_step : (n : ℕ) (m : Mos) → n < count_of m → ((c : Mos) → steps_of c < steps_of m → n < count_of c → first_with n (children c) ≡ None) → first_with n (children m) ≡ None
past_step n m l ih =
    ap (first_with n) (children_follow m)
    ∙ rw (ne_eqb (count_of m) n (omega arith), first_with) (past_rest n m (child_of m) (child_view m) l ih)

past_within : (k n : ℕ) (m : Mos) → steps_of m ≤ k → n < count_of m → first_with n (children m) ≡ None
past_within zero n m h l = past_step n m l (λ c f. absurd (let z : ⊥ = omega arith in z))
past_within (suc k) n m h l = past_step n m l (λ c f. past_within k n c (omega arith))

module _ (n : ℕ) (m : Mos) where
  pub find_past : n < count_of m → None ≡ first_with n (children m)
  find_past l = sym (past_within (steps_of m) n m (le_refl _) l)

  pub find_here : count_of m ≡ n → Some m ≡ first_with n (children m)
  find_here e = sym (ap (first_with n) (children_follow m) ∙ rw (eq-eqb (count_of m) n e, first_with))

  pub find_end : (count_of m ≡ n → ⊥) → child_of m ≡ None → None ≡ first_with n (children m)
  find_end d e = sym (ap (first_with n) (children_end m e) ∙ rw (ne_eqb (count_of m) n d, first_with))

  pub find_next : (c : Mos) → (count_of m ≡ n → ⊥) → child_of m ≡ Some c → first_with n (children c) ≡ first_with n (children m)
  find_next c d e = sym (ap (first_with n) (children_next m c e) ∙ rw (ne_eqb (count_of m) n d, first_with))
