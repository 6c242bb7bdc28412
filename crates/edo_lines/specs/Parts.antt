-- What the parts promise: the line of one chain, from the two choices.
use Rattle.std.specs.Prelude.{ℕ, List}
use Rattle.edo_tritaves.specs.declared.Choices.{Choices}
use Rattle.edo_layouts.specs.Layouts.{chain_served, given_of, joined_over}
use Rattle.edo_lines.specs.Lines.{layout_line}

unfoldable pub served_line : ℕ → Choices → (code : ℕ) → List ℕ
unfolding joined_over layout_line chain_served
served_line n t code = joined_over layout_line (given_of (chain_served n code t))
