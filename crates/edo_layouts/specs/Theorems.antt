-- What holds of the layouts that are found: statements; their proofs stand in proofs/.
use Rattle.std.specs.Prelude.{ℕ, ◌≤◌, ◌<◌, true, false, ◌⊎◌, ◌≡◌, Option, Some, None}
use Rattle.answer.specs.Outcome.{given, refused}
use Rattle.layout.specs.Layouts.{Layout, layout_outcome, Accepted, default_layout}
use Rattle.edo_tritaves.specs.Tritaves.{tritave, second_choice}
use Rattle.edo_layouts.specs.declared.EdoLayout.{EdoLayout}
use Rattle.edo_layouts.specs.Layouts.{chain_outcome}

-- What the call answers for a chain of an octave of n steps. k is the first choice for the tritave and s the second, if there is one;
-- both are tried at the chain's own start. Each case says the whole answer, and one of them always holds.
pub record Served (n code k : ℕ) (s : Option ℕ) : Type 0 where
  -- the first choice wherever it is accepted, not marked
  pub first : (l : Layout) → Accepted (default_layout code n k) l
      → chain_outcome n code ≡ given (record { layout = default_layout code n k; second = false; pattern = l.pattern })
  -- where it is refused, the second choice, marked, if there is one and it is accepted
  pub second : (q m : ℕ) (l : Layout) → layout_outcome (default_layout code n k) ≡ refused q → s ≡ Some m → Accepted (default_layout code n m) l
      → chain_outcome n code ≡ given (record { layout = default_layout code n m; second = true; pattern = l.pattern })
  -- where there is no second choice, or it is refused too, the first's refusal
  pub neither : (q : ℕ) → layout_outcome (default_layout code n k) ≡ refused q
      → (s ≡ None) ⊎ ((m : ℕ) × (s ≡ Some m) × ((p : ℕ) × (layout_outcome (default_layout code n m) ≡ refused p)))
      → chain_outcome n code ≡ refused q

-- The first choice gives no layout.
pub record NoFirst (n code : ℕ) : Type 0 where
  pub question : ℕ
  pub says_no : layout_outcome (default_layout code n (tritave n)) ≡ refused question

-- A layout that was found is one of document 01: of that chain and octave, with the chain's own start, and accepted.
pub record Chosen (n code : ℕ) (c : EdoLayout) : Type 0 where
  pub is_default : c.layout ≡ default_layout code n c.layout.tritave
  pub found : Layout
  pub accepted : Accepted c.layout found
  pub pattern_is : c.pattern ≡ found.pattern
  -- its tritave is the first choice, or it is the second, and then the first gives no layout
  pub choice : ((c.second ≡ false) × (c.layout.tritave ≡ tritave n))
      ⊎ ((c.second ≡ true) × (second_choice n (tritave n) ≡ Some c.layout.tritave) × NoFirst n code)

-- Theorem: for 1 to 400 steps every chain is so served, whatever its code; else the answer is 15. So each layout that is found is so chosen.
pub record LayoutsAreChosen : Type 0 where
  pub served : (n code : ℕ) → 1 ≤ n → n ≤ 400 → Served n code (tritave n) (second_choice n (tritave n))
  pub outside : (n code : ℕ) → (n ≡ 0) ⊎ (400 < n) → chain_outcome n code ≡ refused 15
  pub found : (n code : ℕ) (c : EdoLayout) → chain_outcome n code ≡ given c → Chosen n code c
