-- Worked examples: the layers and kinds of whole layouts, and one theorem that the definitions give them.
use Rattle.std.specs.Prelude.{◌≡◌, List, [], ◌∷◌, map, ℕ, ℤ, pos, negsuc}
use Rattle.answer.specs.Outcome.{Outcome, given, refused, and_then}
use Rattle.layout.specs.declared.IsomorphicLayout.{IsomorphicLayout}
use Rattle.layout.specs.Examples.{layout}
use Rattle.layout_layers.specs.declared.Layer.{Layer}
use Rattle.layout_layers.specs.declared.Layer.TheVariants.{Natural, Sharp, Enharmonic, Flat}
use Rattle.layout_layers.specs.KeyLayers.{kind_of}
use Rattle.layout_layers.specs.LampCodes.{lamp_code}
use Rattle.layout_layers.specs.Answers.{get_layers, get_layer_count, get_layer}

-- ---- numbers: how many, and those of the keys

pub record NumbersExample : Type 0 where
  pub layout : IsomorphicLayout
  pub total : Outcome ℕ
  pub numbers : Outcome (List ℕ)

abbrev pub numbers_examples : List NumbersExample
numbers_examples =
    record {
      layout = layout 1 12 19;
      total = given 2;
      numbers = given (0 ∷ 1 ∷ 0 ∷ 0 ∷ 1 ∷ 0 ∷ 1 ∷ 0 ∷ 1 ∷ 0 ∷ 0 ∷ 1 ∷ []);
    }
    ∷ record {
      layout = layout 1 31 49;
      total = given 5;
      numbers = given (0 ∷ 3 ∷ 1 ∷ 4 ∷ 2 ∷ 0 ∷ 4 ∷ 1 ∷ 0 ∷ 3 ∷ 1 ∷ 4 ∷ 2 ∷ 0 ∷ 3 ∷ 1 ∷ 4 ∷ 2 ∷ 0 ∷ 3 ∷ 1 ∷ 4 ∷ 2 ∷ 0 ∷ 4 ∷ 1 ∷ 0 ∷ 3 ∷ 1 ∷ 4 ∷ 2 ∷ []);
    }
    ∷ record {
      layout = layout 1 19 30;
      total = given 4;
      numbers = given (0 ∷ 1 ∷ 3 ∷ 0 ∷ 2 ∷ 0 ∷ 1 ∷ 3 ∷ 0 ∷ 1 ∷ 3 ∷ 0 ∷ 1 ∷ 3 ∷ 0 ∷ 2 ∷ 0 ∷ 1 ∷ 3 ∷ []);
    }
    ∷ record {
      layout = layout 1 7 11;
      total = given 2;
      numbers = given (0 ∷ 0 ∷ 1 ∷ 1 ∷ 1 ∷ 1 ∷ 0 ∷ 0 ∷ 0 ∷ 1 ∷ 1 ∷ 1 ∷ 1 ∷ 0 ∷ []);
    }
    ∷ record {
      layout = layout 2 7 8;
      total = given 3;
      numbers = given (0 ∷ 0 ∷ 0 ∷ 1 ∷ 2 ∷ 0 ∷ 0 ∷ []);
    }
    ∷ record {
      layout = layout 0 16 25;
      total = given 2;
      numbers = given (0 ∷ 1 ∷ 0 ∷ 1 ∷ 0 ∷ 0 ∷ 1 ∷ 0 ∷ 1 ∷ 0 ∷ 1 ∷ 0 ∷ 0 ∷ 1 ∷ 0 ∷ 1 ∷ []);
    }
    ∷ record { layout = layout 6 12 19; total = refused 1; numbers = refused 1 }
    ∷ record { layout = layout 1 0 19; total = refused 2; numbers = refused 2 }
    ∷ record { layout = layout 3 12 19; total = refused 3; numbers = refused 3 }
    ∷ record { layout = layout 0 12 19; total = refused 4; numbers = refused 4 }
    ∷ []

-- ---- kinds: the original's examples, 17, 24 and 14 equal steps

pub record KindsExample : Type 0 where
  pub layout : IsomorphicLayout
  pub kinds : Outcome (List Layer)

abbrev pub kinds_in : IsomorphicLayout → Outcome (List Layer)
kinds_in r = and_then (get_layers r) (λ (js : List ℕ). and_then (get_layer_count r) (λ (T : ℕ). given (map (kind_of T) js)))

abbrev pub kinds_examples : List KindsExample
kinds_examples =
    record {
      layout = layout 1 17 27;
      kinds = given (Natural ∷ Flat 0 ∷ Sharp 0 ∷ Natural ∷ Natural ∷ Flat 0 ∷ Sharp 0 ∷ Natural ∷ Flat 0 ∷ Sharp 0 ∷ Natural ∷ Flat 0 ∷ Sharp 0 ∷ Natural ∷ Natural ∷ Flat 0 ∷ Sharp 0 ∷ []);
    }
    ∷ record {
      layout = layout 1 24 38;
      kinds = given (Natural ∷ Sharp 0 ∷ Enharmonic 1 ∷ Flat 0 ∷ Natural ∷ Sharp 0 ∷ Natural ∷ Sharp 0 ∷ Enharmonic 1 ∷ Flat 0 ∷ Natural ∷ Sharp 0 ∷ Enharmonic 1 ∷ Flat 0 ∷ Natural ∷ Sharp 0 ∷ Enharmonic 1 ∷ Flat 0 ∷ Natural ∷ Sharp 0 ∷ Natural ∷ Sharp 0 ∷ Enharmonic 1 ∷ Flat 0 ∷ []);
    }
    ∷ record {
      layout = layout 1 14 22;
      kinds = given (Natural ∷ Sharp 0 ∷ Natural ∷ Sharp 0 ∷ Enharmonic 1 ∷ Flat 0 ∷ Enharmonic 1 ∷ Flat 0 ∷ Enharmonic 1 ∷ Flat 0 ∷ Enharmonic 1 ∷ Flat 0 ∷ Natural ∷ Sharp 0 ∷ Natural ∷ Sharp 0 ∷ Natural ∷ Sharp 0 ∷ Enharmonic 1 ∷ Flat 0 ∷ Enharmonic 1 ∷ Flat 0 ∷ Enharmonic 1 ∷ Flat 0 ∷ Enharmonic 1 ∷ Flat 0 ∷ Natural ∷ Sharp 0 ∷ []);
    }
    ∷ []

-- ---- one key, in a far octave and below 0 too

pub record KeyExample : Type 0 where
  pub layout : IsomorphicLayout
  pub key : ℤ
  pub number : Outcome ℕ

abbrev pub key_examples : List KeyExample
key_examples =
    record { layout = layout 1 12 19; key = pos 65535; number = given 0 }
    ∷ record { layout = layout 1 7 11; key = pos 65535; number = given 0 }
    ∷ record { layout = layout 1 31 49; key = pos 33; number = given 1 }
    ∷ record { layout = layout 2 7 8; key = pos 3; number = given 1 }
    -- below 0 (`negsuc k` is −1 − k): −1 is the last of the 12 entries, or of the 14; key 7 of 1 7 11 has the layer of −7, of the second octave
    ∷ record { layout = layout 1 12 19; key = negsuc 0; number = given 1 }
    ∷ record { layout = layout 1 7 11; key = negsuc 0; number = given 0 }
    ∷ record { layout = layout 1 7 11; key = negsuc 1; number = given 1 }
    ∷ record { layout = layout 1 7 11; key = negsuc 7; number = given 0 }
    ∷ record { layout = layout 1 7 11; key = negsuc 13; number = given 0 }
    -- both ends of 32 signed bits: entries 4 and 7 of 12
    ∷ record { layout = layout 1 12 19; key = negsuc 2147483647; number = given 1 }
    ∷ record { layout = layout 1 12 19; key = pos 2147483647; number = given 0 }
    ∷ record { layout = layout 0 12 19; key = pos 0; number = refused 4 }
    ∷ []

-- Theorem: the definitions give what the examples say.
pub record ExamplesHold : Type 0 where
  pub totals : map (λ (e : NumbersExample). get_layer_count e.layout) numbers_examples ≡ map (λ (e : NumbersExample). e.total) numbers_examples
  pub numbers : map (λ (e : NumbersExample). get_layers e.layout) numbers_examples ≡ map (λ (e : NumbersExample). e.numbers) numbers_examples
  pub kinds : map (λ (e : KindsExample). kinds_in e.layout) kinds_examples ≡ map (λ (e : KindsExample). e.kinds) kinds_examples
  pub keys : map (λ (e : KeyExample). get_layer e.layout e.key) key_examples ≡ map (λ (e : KeyExample). e.number) key_examples
  pub codes : map lamp_code (Natural ∷ Sharp 0 ∷ Sharp 99 ∷ Flat 0 ∷ Flat 99 ∷ Enharmonic 7 ∷ []) ≡ 1 ∷ 2 ∷ 200 ∷ 3 ∷ 201 ∷ 65535 ∷ []
  -- the last of each kind that 16 bits hold
  pub last_codes : map lamp_code (Sharp 32766 ∷ Flat 32765 ∷ []) ≡ 65534 ∷ 65533 ∷ []
  -- a number from T on counts as flat 0, but 0 is natural, where T is 0 too
  pub no_number : map (kind_of 5) (2 ∷ 3 ∷ 5 ∷ 9 ∷ []) ≡ Sharp 1 ∷ Flat 1 ∷ Flat 0 ∷ Flat 0 ∷ []
  pub no_numbers : map (kind_of 0) (0 ∷ 1 ∷ 2 ∷ []) ≡ Natural ∷ Flat 0 ∷ Flat 0 ∷ []
