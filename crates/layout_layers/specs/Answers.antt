-- What the calls answer: questions 1 to 4 and 18 of the layout, then the value; a list goes through question 10 too.
use Rattle.std.specs.Prelude.{ℕ, List, ℤ}
use Rattle.answer.specs.Outcome.{Outcome, given}
use Rattle.layout.specs.declared.IsomorphicLayout.{IsomorphicLayout}
use Rattle.layout.specs.Layouts.{Layout, layout_outcome}
use Rattle.layout.specs.Answers.{of_layout}
use Rattle.layout_layers.specs.KeyLayers.{key_layers, layer_count, layer_number, key_number_in, layers_in, count_in}

unfoldable pub get_layers : IsomorphicLayout → Outcome (List ℕ)
unfolding layout_outcome key_layers
get_layers r = of_layout r (λ (l : Layout). given (layers_in l))

unfoldable pub get_layer_count : IsomorphicLayout → Outcome ℕ
unfolding layout_outcome layer_count
get_layer_count r = of_layout r (λ (l : Layout). given (count_in l))

-- One key's number, for every key.
unfoldable pub get_layer : IsomorphicLayout → ℤ → Outcome ℕ
unfolding layout_outcome layer_number
get_layer r key = of_layout r (λ (l : Layout). given (key_number_in l key))
