-- A chain that is served: one law for each way in which the choices end.
use Prim.Native.Nat.{ℕ}
use mathlib.Core.Path.{◌≡◌, refl, sym, ap, ◌∙◌}
use mathlib.Core.Bool.{Bool, true, false}
use native.Mathlib.Omega.{arith}
use Rattle.std.specs.Prelude.{Option, Some, None, Result, Ok, Err}
use Rattle.std.specs.Result.{result_or}
use Rattle.answer.specs.Refusals.{number_of, outcome_of}
use Rattle.answer.specs.declared.Refusal.{Refusal}
use Rattle.answer.specs.Outcome.{Outcome, given, refused, and_then}
use Rattle.answer.proofs.Asked.{given_same}
use Rattle.layout.specs.Layouts.{Layout, layout_outcome, default_layout}
use Rattle.layout.specs.declared.IsomorphicLayout.{IsomorphicLayout}
use Rattle.edo_tritaves.specs.declared.Choices.{Choices}
use Rattle.edo_tritaves.specs.Tritaves.{tritaves_of}
use Rattle.edo_layouts.specs.declared.EdoLayout.{EdoLayout}
use Rattle.edo_layouts.specs.Layouts.{edo_layout, tried, or_else, with_second, chain_served, chain_outcome}

-- ---- one tritave

module _ (n code tritave : ℕ) (second : Bool) (r : IsomorphicLayout) (is : r ≡ default_layout code n tritave) where
  pub tried_refused : (q : ℕ) → refused q ≡ layout_outcome r → refused q ≡ tried n code tritave second
  unfolding tried
  tried_refused q e =
      ap (λ (o : Outcome Layout). and_then o (λ (l : Layout). given (edo_layout (default_layout code n tritave) second l.pattern)))
      (e ∙ ap layout_outcome is)

  pub tried_given : (l : Layout) → given l ≡ layout_outcome r
      → given (edo_layout r second l.pattern) ≡ tried n code tritave second
  unfolding tried
  tried_given l e =
      ap (λ (x : IsomorphicLayout). given (edo_layout x second l.pattern)) is
      ∙ ap (λ (o : Outcome Layout). and_then o (λ (k : Layout). given (edo_layout (default_layout code n tritave) second k.pattern)))
      (e ∙ ap layout_outcome is)

-- ---- the second alone, behind a refusal

module _ (q : ℕ) (o : Outcome EdoLayout) where
  pub else_refused : (p : ℕ) → refused p ≡ o → refused q ≡ or_else (refused q) o
  else_refused p e = ap (or_else (refused q)) e

  pub else_given : (c : EdoLayout) → given c ≡ o → given c ≡ or_else (refused q) o
  else_given c e = ap (or_else (refused q)) e

-- .. as the code says it
pub or_refusal : (r : Result EdoLayout Refusal) (refusal : Refusal)
    → outcome_of (result_or r (Err refusal)) ≡ or_else (refused (number_of refusal)) (outcome_of r)
or_refusal (Ok c) refusal = refl
or_refusal (Err q) refusal = refl

-- ---- both

module _ (n code : ℕ) (t : Choices) where
  abbrev first : Outcome EdoLayout
  first = tried n code t.first false

  either : (second : Option ℕ) (c : EdoLayout) → given c ≡ first → given c ≡ with_second n code first second
  unfolding with_second
  either None c e = e
  either (Some m) c e = ap (λ (o : Outcome EdoLayout). or_else o (tried n code m true)) e

  pub served_first : (c : EdoLayout) → given c ≡ first → given c ≡ chain_served n code t
  unfolding chain_served
  served_first c e = either t.second c e

  pub no_second : (q : ℕ) → refused q ≡ first → t.second ≡ None → refused q ≡ chain_served n code t
  unfolding chain_served with_second
  no_second q e z = e ∙ sym (ap (with_second n code first) z)

  pub served_second : (q m : ℕ) (x : Outcome EdoLayout) → refused q ≡ first → t.second ≡ Some m → x ≡ or_else (refused q) (tried n code m true)
      → x ≡ chain_served n code t
  unfolding chain_served with_second
  served_second q m x e z f = f ∙ ap (λ (o : Outcome EdoLayout). or_else o (tried n code m true)) e ∙ sym (ap (with_second n code first) z)

-- ---- from question 15

module _ (n code : ℕ) where
  pub chain_refused : (q : ℕ) → refused q ≡ tritaves_of n → refused q ≡ chain_outcome n code
  unfolding chain_outcome
  chain_refused q e = ap (λ (o : Outcome Choices). and_then o (chain_served n code)) e

  pub chain_served_lem : (t : Choices) → given t ≡ tritaves_of n → chain_served n code t ≡ chain_outcome n code
  unfolding chain_outcome
  chain_served_lem t e = ap (λ (o : Outcome Choices). and_then o (chain_served n code)) e

-- ---- a chain's layout is of that chain

tried_chain : (n code tritave : ℕ) (second : Bool) (c : EdoLayout) → given c ≡ tried n code tritave second → c.layout.genchain ≡ code
unfolding tried
tried_chain n code tritave second c e = by (layout_outcome (default_layout code n tritave)) e
  where
    by : (o : Outcome Layout)
        → given c ≡ and_then o (λ (l : Layout). given (edo_layout (default_layout code n tritave) second l.pattern))
        → c.layout.genchain ≡ code
    by (given l) f = ap (λ (x : EdoLayout). x.layout.genchain) (given_same f)
    by (refused q) f = absurd (let z : ◌≡◌ {A = ℕ} 0 1 = cc in omega arith)

module _ (n code : ℕ) (c : EdoLayout) where
  else_chain : (a b : Outcome EdoLayout) → (given c ≡ a → c.layout.genchain ≡ code) → (given c ≡ b → c.layout.genchain ≡ code)
      → given c ≡ or_else a b → c.layout.genchain ≡ code
  else_chain (given x) b f g e = f e
  else_chain (refused q) (given x) f g e = g e
  else_chain (refused q) (refused p) f g e = absurd (let z : ◌≡◌ {A = ℕ} 0 1 = cc in omega arith)

  pub served_chain : (t : Choices) → given c ≡ chain_served n code t → c.layout.genchain ≡ code
  unfolding chain_served with_second
  served_chain t e = by t.second e
    where
      by : (second : Option ℕ) → given c ≡ with_second n code (first n code t) second → c.layout.genchain ≡ code
      by None f = tried_chain n code t.first false c f
      by (Some m) f =
          else_chain (first n code t) (tried n code m true) (tried_chain n code t.first false c) (tried_chain n code m true c) f

  pub chain_is : given c ≡ chain_outcome n code → c.layout.genchain ≡ code
  unfolding chain_outcome
  chain_is e = by (tritaves_of n) e
    where
      by : (o : Outcome Choices) → given c ≡ and_then o (chain_served n code) → c.layout.genchain ≡ code
      by (given t) f = served_chain t f
      by (refused q) f = absurd (let z : ◌≡◌ {A = ℕ} 0 1 = cc in omega arith)
