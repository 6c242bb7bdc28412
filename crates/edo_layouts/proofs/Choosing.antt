-- Which choice serves a chain: by cases on what the two choices give, and from there what a layout that was found is.
use Prim.Native.Nat.{ℕ, ◌≤◌, ◌<◌}
use native.Mathlib.Omega.{arith}
use mathlib.Core.Bool.{Bool, true, false}
use mathlib.Core.Logic.{◌⊎◌, inl, inr}
use mathlib.Core.Path.{◌≡◌, refl, sym, ◌∙◌, subst}
use lib.Dec.{leb}
use Rattle.std.specs.Prelude.{Option, Some, None}
use borrow.Author.Tests.{leb-true, leb-false}
use Rattle.answer.specs.Outcome.{Outcome, given, refused}
use Rattle.answer.proofs.Asked.{given_same}
use Rattle.layout.specs.Layouts.{Layout, layout_outcome, Accepted, default_layout}
use Rattle.edo_tritaves.specs.declared.Choices.{Choices}
use Rattle.edo_tritaves.specs.Tritaves.{tritave, second_choice, choices_of}
use Rattle.edo_tritaves.proofs.Choosing.{no_steps, too_many, tritaves_given}
use Rattle.edo_layouts.specs.declared.EdoLayout.{EdoLayout}
use Rattle.edo_layouts.specs.Layouts.{edo_layout, tried, chain_served, chain_outcome}
use Rattle.edo_layouts.specs.Theorems.{Served, Chosen, LayoutsAreChosen}
use Rattle.edo_layouts.proofs.Serving.{tried_given, tried_refused, else_given, else_refused, served_first, no_second, served_second, chain_refused, chain_served_lem}

no_both : {A : Type 0} {a : A} {q : ℕ} → refused q ≡ given a → ⊥
no_both e = let z : ◌≡◌ {A = ℕ} 0 1 = cc in omega arith

-- ---- what a chain gets, from what its choices give

module _ (n code : ℕ) (t : Choices) where
  abbrev first : ℕ
  first = t.first

  gives : (k : ℕ) (marked : Bool) (l : Layout) → Accepted (default_layout code n k) l
      → given (edo_layout (default_layout code n k) marked l.pattern) ≡ tried n code k marked
  gives k marked l e = tried_given n code k marked (default_layout code n k) refl l (sym e)

  gives_none : (k : ℕ) (marked : Bool) (q : ℕ) → layout_outcome (default_layout code n k) ≡ refused q → refused q ≡ tried n code k marked
  gives_none k marked q e = tried_refused n code k marked (default_layout code n k) refl q (sym e)

  by_first : (l : Layout) → Accepted (default_layout code n first) l
      → given (edo_layout (default_layout code n first) false l.pattern) ≡ chain_served n code t
  by_first l e = served_first n code t _ (gives first false l e)

  module _ (q : ℕ) (no : layout_outcome (default_layout code n first) ≡ refused q) where
    by_second : (m : ℕ) (l : Layout) → t.second ≡ Some m → Accepted (default_layout code n m) l
        → given (edo_layout (default_layout code n m) true l.pattern) ≡ chain_served n code t
    by_second m l some e =
        served_second n code t q m _ (gives_none first false q no) some (else_given q (tried n code m true) _ (gives m true l e))

    by_either : (t.second ≡ None) ⊎ ((m : ℕ) × (t.second ≡ Some m) × ((p : ℕ) × (layout_outcome (default_layout code n m) ≡ refused p)))
        → refused q ≡ chain_served n code t
    by_either (inl none) = no_second n code t q (gives_none first false q no) none
    by_either (inr (m, some, (p, e))) =
        served_second n code t q m _ (gives_none first false q no) some (else_refused q (tried n code m true) p (gives_none m true p e))

-- ---- 1 to 400

module _ (n code : ℕ) where
  in_division : 1 ≤ n → n ≤ 400 → chain_served n code (choices_of n) ≡ chain_outcome n code
  in_division l h = chain_served_lem n code (choices_of n) (tritaves_given n l h (choices_of n) refl)

  all_served : 1 ≤ n → n ≤ 400 → Served n code (tritave n) (second_choice n (tritave n))
  unfolding choices_of
  all_served l h =
      record {
        first = λ m e. sym (by_first n code (choices_of n) m e ∙ in_division l h);
        second = λ q m o no some e. sym (by_second n code (choices_of n) q no m o some e ∙ in_division l h);
        neither = λ q no none. sym (by_either n code (choices_of n) q no none ∙ in_division l h);
      }

  all_outside : (n ≡ 0) ⊎ (400 < n) → chain_outcome n code ≡ refused 15
  all_outside (inl e) = sym (chain_refused n code 15 (no_steps n e))
  all_outside (inr h) = sym (chain_refused n code 15 (too_many n h))

-- ---- a layout that was found

module _ (n code : ℕ) (c : EdoLayout) (is : chain_outcome n code ≡ given c) where
  abbrev k : ℕ
  k = tritave n

  abbrev s : Option ℕ
  s = second_choice n (tritave n)

  chosen : (x : EdoLayout) → chain_outcome n code ≡ given x → Chosen n code x → Chosen n code c
  chosen x e = subst (λ (y : EdoLayout). Chosen n code y) (given_same (sym e ∙ is))

  not_refused : (q : ℕ) → chain_outcome n code ≡ refused q → Chosen n code c
  not_refused q e = absurd (no_both (sym e ∙ is))

  module _ (v : Served n code k s) where
    module _ (q : ℕ) (no : layout_outcome (default_layout code n k) ≡ refused q) where
      second_found : (m : ℕ) → s ≡ Some m → (o : Outcome Layout) → layout_outcome (default_layout code n m) ≡ o → Chosen n code c
      second_found m some (given l) e =
          chosen _ (v.second q m l no some e)
          (record {
            is_default = refl;
            found = l;
            accepted = e;
            pattern_is = refl;
            choice = inr (refl, some, record { question = q; says_no = no });
          })
      second_found m some (refused p) e = not_refused q (v.neither q no (inr (m, some, (p, e))))

      by_choice : (second : Option ℕ) → s ≡ second → Chosen n code c
      by_choice None e = not_refused q (v.neither q no (inl e))
      by_choice (Some m) e = second_found m e (layout_outcome (default_layout code n m)) refl

    by_outcome : (o : Outcome Layout) → layout_outcome (default_layout code n k) ≡ o → Chosen n code c
    by_outcome (given m) e =
        chosen _ (v.first m e)
        (record { is_default = refl; found = m; accepted = e; pattern_is = refl; choice = inl (refl, refl) })
    by_outcome (refused q) e = by_choice q e s refl

  by_division : (low high : Bool) → leb 1 n ≡ low → leb n 400 ≡ high → Chosen n code c
  by_division false high e f = not_refused 15 (all_outside n code (inl (let z = leb-false 1 n e in omega arith)))
  by_division true false e f = not_refused 15 (all_outside n code (inr (leb-false n 400 f)))
  by_division true true e f =
      by_outcome (all_served n code (leb-true 1 n e) (leb-true n 400 f)) (layout_outcome (default_layout code n k)) refl

pub layouts_are_chosen : LayoutsAreChosen
layouts_are_chosen =
    record { served = all_served; outside = all_outside; found = λ n code c is. by_division n code c is (leb 1 n) (leb n 400) refl refl }
