-- Worked examples of the definitions: a pattern, its layer sizes and its layers.
-- Document 01's are 1 31 49 (layer sizes 7 7 5 5 7) and 1 19 30 (7 5 2 5); the others are the original's, and its overflow.
use Rattle.std.specs.Prelude.{ℕ, ◌≡◌, List, [], ◌∷◌, map}
use Rattle.mos.specs.declared.Mos.{Mos}
use Rattle.mos.specs.Patterns.{mos}
use Rattle.mos_layers.specs.Layers.{layer_sizes, layers_of}

pub record SizesExample : Type 0 where
  pub pattern : Mos
  pub sizes : List ℕ

abbrev pub sizes_examples : List SizesExample
sizes_examples =
    record { pattern = mos 5 2 5 3; sizes = 7 ∷ 7 ∷ 5 ∷ 5 ∷ 7 ∷ [] }
    ∷ record { pattern = mos 5 2 3 2; sizes = 7 ∷ 5 ∷ 2 ∷ 5 ∷ [] }
    ∷ record { pattern = mos 5 2 4 2; sizes = 7 ∷ 5 ∷ [] }
    ∷ record { pattern = mos 5 2 2 1; sizes = 7 ∷ 5 ∷ [] }
    ∷ record { pattern = mos 5 2 1 1; sizes = 7 ∷ [] }
    ∷ record { pattern = mos 2 5 3 5; sizes = 7 ∷ 7 ∷ 5 ∷ 5 ∷ 7 ∷ [] }
    ∷ record { pattern = mos 4 3 4 1; sizes = 7 ∷ 4 ∷ 4 ∷ 4 ∷ [] }
    ∷ record { pattern = mos 3 2 0 4; sizes = 2 ∷ [] }
    ∷ record { pattern = mos 0 3 5 4; sizes = 3 ∷ 3 ∷ 3 ∷ 3 ∷ [] }
    ∷ record { pattern = mos 40000 40000 1 0; sizes = 40000 ∷ [] }
    ∷ record { pattern = mos 40000 40000 0 0; sizes = [] }
    ∷ []

pub record LayersExample : Type 0 where
  pub pattern : Mos
  pub layers : List ℕ

abbrev pub layers_examples : List LayersExample
layers_examples =
    record {
      pattern = mos 5 2 5 3;
      layers =
          0 ∷ 0 ∷ 0 ∷ 0 ∷ 0 ∷ 0 ∷ 0
          ∷ 1 ∷ 1 ∷ 1 ∷ 1 ∷ 1 ∷ 1 ∷ 1
          ∷ 2 ∷ 2 ∷ 2 ∷ 2 ∷ 2
          ∷ 3 ∷ 3 ∷ 3 ∷ 3 ∷ 3
          ∷ 4 ∷ 4 ∷ 4 ∷ 4 ∷ 4 ∷ 4 ∷ 4 ∷ [];
    }
    ∷ record {
      pattern = mos 5 2 3 2;
      layers = 0 ∷ 0 ∷ 0 ∷ 0 ∷ 0 ∷ 0 ∷ 0 ∷ 1 ∷ 1 ∷ 1 ∷ 1 ∷ 1 ∷ 2 ∷ 2 ∷ 3 ∷ 3 ∷ 3 ∷ 3 ∷ 3 ∷ [];
    }
    ∷ record { pattern = mos 0 2 5 3; layers = 0 ∷ 0 ∷ 1 ∷ 1 ∷ 2 ∷ 2 ∷ [] }
    ∷ []

-- Theorem: the definitions give what the examples say.
pub record ExamplesHold : Type 0 where
  pub sizes : map (λ (e : SizesExample). layer_sizes e.pattern) sizes_examples ≡ map (λ (e : SizesExample). e.sizes) sizes_examples
  pub layers : map (λ (e : LayersExample). layers_of e.pattern) layers_examples
      ≡ map (λ (e : LayersExample). e.layers) layers_examples
