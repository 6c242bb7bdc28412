-- What the calls answer: question 7 of the pattern, then question 10 of the lent slice.
use Rattle.std.specs.Prelude.{ℕ, List}
use Rattle.answer.specs.Outcome.{Outcome, ask}
use Rattle.answer.specs.Lent.{held_in}
use Rattle.mos.specs.declared.Mos.{Mos}
use Rattle.mos.specs.Patterns.{is_pattern}
use Rattle.mos_layers.specs.Layers.{layer_sizes, layers_of}

unfoldable pub layer_sizes_outcome : Mos → ℕ → Outcome (List ℕ)
unfolding is_pattern layer_sizes
layer_sizes_outcome m room = ask 7 (is_pattern m) (held_in room (layer_sizes m))

unfoldable pub layers_outcome : Mos → ℕ → Outcome (List ℕ)
unfolding is_pattern layers_of
layers_outcome m room = ask 7 (is_pattern m) (held_in room (layers_of m))
