-- What holds of the table and of the choices: statements; their proofs stand in proofs/.
use Rattle.std.specs.Prelude.{ℕ, ◌+◌, ◌≤◌, ◌<◌, true, false, ◌≡◌, length, get_or, Some, None}
use Rattle.edo_tritaves.specs.Tritaves.{TritaveRule, tritave, goes_up, goes_down, second_choice}
use Rattle.edo_tritaves.specs.Table.{tritave_table}

-- Theorem: no two numbers meet the rule, whatever n is.
abbrev pub OneTritave : Type 0
OneTritave = (n k l : ℕ) → TritaveRule n k → TritaveRule n l → k ≡ l

-- Theorem: the table, which the code has as its constant, has 400 numbers. That at place i meets the rule for i + 1 steps to the octave, by
-- exact powers, and no other number does.
pub record TableMeetsTheRule : Type 0 where
  pub long : length tritave_table ≡ 400
  pub meets : (i : ℕ) → i < 400 → TritaveRule (i + 1) (get_or tritave_table i 0)
  pub only : (i k : ℕ) → i < 400 → TritaveRule (i + 1) k → k ≡ get_or tritave_table i 0

-- The tritave count meets the rule, and no other number does. The second choice is its neighbour by the two inequalities, or there is none.
pub record ChoicesByTheRule (n : ℕ) : Type 0 where
  pub meets : TritaveRule n (tritave n)
  pub only : (k : ℕ) → TritaveRule n k → k ≡ tritave n
  pub up : goes_up n (tritave n) ≡ true → second_choice n (tritave n) ≡ Some (tritave n + 1)
  pub down : goes_down n (tritave n) ≡ true → (k : ℕ) × (second_choice n (tritave n) ≡ Some k) × (k + 1 ≡ tritave n)
  pub neither : goes_up n (tritave n) ≡ false → goes_down n (tritave n) ≡ false → second_choice n (tritave n) ≡ None
  -- so neither neighbour is 0
  pub no_zero : 2 ≤ tritave n

-- Theorem: so it is for every n from 1 on.
abbrev pub EveryDivisionMeetsTheRule : Type 0
EveryDivisionMeetsTheRule = (n : ℕ) → 1 ≤ n → ChoicesByTheRule n

-- Theorem: the two inequalities of the second choice never both hold.
abbrev pub NeverBoth : Type 0
NeverBoth = (n k : ℕ) → goes_up n k ≡ true → goes_down n k ≡ true → ⊥
