-- The tritave counts of an octave division (document 02, W-202), in exact whole numbers.
use Rattle.std.specs.Prelude.{ℕ, ◌+◌, ◌*◌, ◌-◌, ◌<◌, ◌^◌, Bool, ◌&&◌, List, ◌∷◌, ltb, leb, Option, Some, None}
use Rattle.std.specs.Option.{option_to_list}
use Rattle.answer.specs.Outcome.{Outcome, given, ask}
use Rattle.answer.specs.Choice.{pick}
use Rattle.math.specs.Passing.{first}
use Rattle.edo_tritaves.specs.declared.Choices.{Choices}

-- ---- "The tritave count k"

-- "Its rule: 3 to the power 2n lies between 2 to the power 2k − 1 and 2 to the power 2k + 1."
pub record TritaveRule (n k : ℕ) : Type 0 where
  pub above : 2 ^ (2 * k - 1) < 3 ^ (2 * n)
  pub below : 3 ^ (2 * n) < 2 ^ (2 * k + 1)

-- The rule as a test.
abbrev pub is_tritave : ℕ → ℕ → Bool
is_tritave n k = ltb (2 ^ (2 * k - 1)) (3 ^ (2 * n)) && ltb (3 ^ (2 * n)) (2 ^ (2 * k + 1))

-- The first number that meets the rule; by `ChoicesByTheRule` the only one. It is at most 2n, since 3 is below 4.
unfoldable pub tritave : ℕ → ℕ
unfolding first
tritave n = first (is_tritave n) (2 * n + 1) 0

-- ---- "The second choice"

-- ".. is k + 1 where 3 to the power 3n exceeds 2 to the power 3k + 1"
abbrev pub goes_up : ℕ → ℕ → Bool
goes_up n k = ltb (2 ^ (3 * k + 1)) (3 ^ (3 * n))

-- ".. and k − 1 where it is below 2 to the power 3k − 1."
abbrev pub goes_down : ℕ → ℕ → Bool
goes_down n k = ltb (3 ^ (3 * n)) (2 ^ (3 * k - 1))

-- "Otherwise there is no second choice".
unfoldable pub second_choice : ℕ → ℕ → Option ℕ
second_choice n k = pick (goes_up n k) (Some (k + 1)) (pick (goes_down n k) (Some (k - 1)) None)

-- Both choices, in their order.
unfoldable pub choices_of : ℕ → Choices
unfolding tritave second_choice
choices_of n = record { first = tritave n; second = second_choice n (tritave n) }

-- As a list: one number, or two.
abbrev pub choice_numbers : Choices → List ℕ
choice_numbers t = t.first ∷ option_to_list t.second

-- ---- what the call answers

-- "For octave divisions n from 1 to 400"
abbrev pub is_division : ℕ → Bool
is_division n = leb 1 n && leb n 400

-- "15 when n is outside 1 to 400, before every other question."
unfoldable pub tritaves_of : ℕ → Outcome Choices
unfolding choices_of
tritaves_of n = ask 15 (is_division n) (given (choices_of n))
