-- From what `divide` found to what the calls on division answer: the remainder law says that no other numbers divide.
use Prim.Native.Nat.{ℕ, ◌<◌}
use mathlib.Core.Path.{◌≡◌, sym, ap, ap₂, ◌∙◌, subst}
use lib.IntN.{ℤ}
use mir.Syntax.{Width}
use mir.Val.{SFits, to_z, of_z}
use Rattle.answer.specs.Outcome.{given, refused}
use Rattle.answer.proofs.Questions.{ask_none, ask_least}
use Rattle.math.specs.Division.{Divided, quotient, remainder}
use Rattle.math.specs.Answers.{divide_outcome, div_outcome, rem_outcome}
use Rattle.math.proofs.Division.{remainder_law}
use Rattle.math.proofs.Signed.{read_back_lem}

pub divide_refused : (z : ℤ) (d : ℕ) → d ≡ 0 → refused 2 ≡ divide_outcome z d
unfolding divide_outcome
divide_refused z d e = sym (ask_none 2 d _ e)

pub div_refused : (z : ℤ) (d : ℕ) → d ≡ 0 → refused 2 ≡ div_outcome z d
unfolding div_outcome
div_refused z d e = sym (ask_none 2 d _ e)

pub rem_refused : (z : ℤ) (d : ℕ) → d ≡ 0 → refused 2 ≡ rem_outcome z d
unfolding rem_outcome
rem_refused z d e = sym (ask_none 2 d _ e)

pub rem_given : (z : ℤ) (d r : ℕ) → 0 < d → r ≡ remainder z d → given r ≡ rem_outcome z d
unfolding rem_outcome
rem_given z d r some e = ap given e ∙ sym (ask_least 2 d _ some)

-- z as the code reads it, at any width
module _ (w : Width) (z : ℤ) (f : SFits w z) (d : ℕ) where
  only : (q : ℤ) (r : ℕ) → Divided (to_z w (of_z w z)) d q r → (q ≡ quotient z d) × (r ≡ remainder z d)
  only q r v = remainder_law.only z d q r (subst (λ (y : ℤ). Divided y d q r) (read_back_lem w z f) v)

  pub remainder_found : (q : ℤ) (r : ℕ) → Divided (to_z w (of_z w z)) d q r → r ≡ remainder z d
  remainder_found q r v = (only q r v).1

  -- a remainder that a callee found of it
  pub remainder_read : (r : ℕ) → r ≡ remainder (to_z w (of_z w z)) d → r ≡ remainder z d
  remainder_read r e = e ∙ ap (λ (y : ℤ). remainder y d) (read_back_lem w z f)

  module _ (some : 0 < d) (q : ℤ) (r : ℕ) (v : Divided (to_z w (of_z w z)) d q r) where
    pub divide_given : given (q, r) ≡ divide_outcome z d
    unfolding divide_outcome
    divide_given = ap₂ (λ (x : ℤ) (y : ℕ). given (x, y)) (only q r v).0 (only q r v).1 ∙ sym (ask_least 2 d _ some)

    pub div_given : given q ≡ div_outcome z d
    unfolding div_outcome
    div_given = ap given (only q r v).0 ∙ sym (ask_least 2 d _ some)
