-- What the parts behind the calls promise: the numbers of one chain, from the two choices.
use Rattle.std.specs.Prelude.{ℕ, List}
use Rattle.edo_tritaves.specs.declared.Choices.{Choices}
use Rattle.edo_layouts.specs.Layouts.{chain_served, given_of, joined_over, numbers_of}

unfoldable pub chain_numbers : ℕ → Choices → (code : ℕ) → List ℕ
unfolding joined_over chain_served
chain_numbers n t code = joined_over numbers_of (given_of (chain_served n code t))
