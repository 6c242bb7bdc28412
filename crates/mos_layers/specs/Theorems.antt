-- What holds of the layers of every pattern.
use Rattle.std.specs.Prelude.{ℕ, ◌+◌, ◌*◌, ◌≤◌, ◌≡◌, List, [], ◌∷◌, length}
use Rattle.mos.specs.declared.Mos.{Mos}
use Rattle.mos.specs.Patterns.{count_of, reduced_size_of}
use Rattle.mos_layers.specs.Layers.{layer_sizes, layers_of}

abbrev pub sum : List ℕ → ℕ
sum [] = 0
sum (size ∷ sizes) = size + sum sizes

-- Theorem: "Layer sizes (`Mos::get_layers`) sum to the reduced size."
abbrev pub LayerSizesSum : Type 0
LayerSizesSum = (m : Mos) → sum (layer_sizes m) ≡ reduced_size_of m

-- Theorem: so a list of layers has as many entries as the reduced size says.
abbrev pub LayersFillTheReducedSize : Type 0
LayersFillTheReducedSize = (m : Mos) → length (layers_of m) ≡ reduced_size_of m

-- Theorem: no layer holds more than both counts, so there are enough layers to fill the reduced size with both counts in each.
abbrev pub EnoughLayers : Type 0
EnoughLayers = (m : Mos) → reduced_size_of m ≤ count_of m * length (layer_sizes m)
