-- Worked examples of strips beside document 01's marked one (BenchExamples), and one theorem that the definitions give them.
use Rattle.std.specs.Prelude.{ℤ, pos, negsuc, true, false, ◌≡◌, List, [], ◌∷◌, map, ℕ}
use Rattle.answer.specs.Outcome.{Outcome, given, refused}
use Rattle.answer.specs.Lent.{counted}
use Rattle.layout.specs.declared.IsomorphicLayout.{IsomorphicLayout}
use Rattle.layout.specs.Examples.{layout}
use Rattle.layout_layers.specs.declared.Layer.TheVariants.{Natural, Sharp, Enharmonic, Flat}
use Rattle.layout_lamps.specs.Lamps.{earlier_lamp_in, byte_code, byte_strip_in, had_lamps_in, first_strip_in, first_had_lamps_in}
use Rattle.layout.specs.Answers.{of_layout}
use Rattle.layout.specs.Layouts.{Layout}
use Rattle.layout_lamps.specs.Answers.{get_strip, get_lamp}

pub record StripExample : Type 0 where
  pub layout : IsomorphicLayout
  pub strip : Outcome (List ℕ)

-- The lamps of 1 12 19 stand in document 01's key table; in 2 7 8 key 3, whose name has a flat spelling too, is in sharp layer 0.
abbrev pub strip_examples : List StripExample
strip_examples =
    record {
      layout = layout 1 12 19;
      strip = given (0 ∷ 65535 ∷ 1 ∷ 1 ∷ 65535 ∷ 1 ∷ 65535 ∷ 1 ∷ 65535 ∷ 1 ∷ 1 ∷ 65535 ∷ []);
    }
    ∷ record {
      layout = layout 2 7 8;
      strip = given (0 ∷ 1 ∷ 1 ∷ 2 ∷ 3 ∷ 1 ∷ 1 ∷ []);
    }
    ∷ record {
      layout = layout 1 24 38;
      strip = given (0 ∷ 2 ∷ 65535 ∷ 3 ∷ 1 ∷ 2 ∷ 1 ∷ 2 ∷ 65535 ∷ 3 ∷ 1 ∷ 2 ∷ 65535 ∷ 3 ∷ 1 ∷ 2 ∷ 65535 ∷ 3 ∷ 1 ∷ 2 ∷ 1 ∷ 2 ∷ 65535 ∷ 3 ∷ []);
    }
    ∷ record {
      layout = layout 1 17 27;
      strip = given (0 ∷ 3 ∷ 2 ∷ 1 ∷ 1 ∷ 3 ∷ 2 ∷ 1 ∷ 3 ∷ 2 ∷ 1 ∷ 3 ∷ 2 ∷ 1 ∷ 1 ∷ 3 ∷ 2 ∷ []);
    }
    ∷ record {
      layout = layout 1 31 49;
      strip = given (0 ∷ 5 ∷ 2 ∷ 3 ∷ 4 ∷ 1 ∷ 3 ∷ 2 ∷ 1 ∷ 5 ∷ 2 ∷ 3 ∷ 4 ∷ 1 ∷ 5 ∷ 2 ∷ 3 ∷ 4 ∷ 1 ∷ 5 ∷ 2 ∷ 3 ∷ 4 ∷ 1 ∷ 3 ∷ 2 ∷ 1 ∷ 5 ∷ 2 ∷ 3 ∷ 4 ∷ []);
    }
    ∷ record { layout = layout 6 12 19; strip = refused 1 }
    ∷ record { layout = layout 1 0 19; strip = refused 2 }
    ∷ record { layout = layout 3 12 19; strip = refused 3 }
    ∷ record { layout = layout 0 12 19; strip = refused 4 }
    ∷ []

pub record LampExample : Type 0 where
  pub layout : IsomorphicLayout
  pub key : ℤ
  pub code : Outcome ℕ

-- 101 cycles of an equalized scale have sharp layers up to 99, the last that had a code of one byte; with 102 there is one more. The board
-- repeats the strip.
abbrev pub lamp_examples : List LampExample
lamp_examples =
    record { layout = layout 2 7 8; key = pos 3; code = given 2 }
    ∷ record { layout = layout 1 7 11; key = pos 0; code = given 0 }
    -- the entry at the octave is home; the strip of two octaves repeats, above and below
    ∷ record { layout = layout 1 7 11; key = pos 7; code = given 0 }
    ∷ record { layout = layout 1 7 11; key = pos 8; code = given 1 }
    ∷ record { layout = layout 1 7 11; key = pos 14; code = given 0 }
    ∷ record { layout = layout 1 7 11; key = negsuc 6; code = given 0 }
    ∷ record { layout = layout 1 7 11; key = negsuc 5; code = given 1 }
    ∷ record { layout = layout 1 7 11; key = negsuc 13; code = given 0 }
    -- "In Porcupine[8] with 8 and 13 that entry goes from 255 to 0."
    ∷ record { layout = layout 3 8 13; key = pos 8; code = given 0 }
    ∷ record { layout = layout 1 7 11; key = pos 9; code = given 65535 }
    ∷ record { layout = layout 1 707 1111; key = pos 100; code = given 200 }
    ∷ record { layout = layout 1 714 1122; key = pos 101; code = given 202 }
    -- "document 01's 2400-step example gets its strip": home, sharp 0 and 198, enharmonic, flat 198 and 0
    ∷ record { layout = layout 1 2400 3800; key = pos 0; code = given 0 }
    ∷ record { layout = layout 1 2400 3800; key = pos 1; code = given 2 }
    ∷ record { layout = layout 1 2400 3800; key = pos 199; code = given 398 }
    ∷ record { layout = layout 1 2400 3800; key = pos 200; code = given 65535 }
    ∷ record { layout = layout 1 2400 3800; key = pos 201; code = given 399 }
    ∷ record { layout = layout 1 2400 3800; key = pos 399; code = given 3 }
    -- below 0 (`negsuc k` is −1 − k): the last key of the octave, home an octave below, both ends of 32 signed bits
    ∷ record { layout = layout 1 12 19; key = negsuc 0; code = given 65535 }
    ∷ record { layout = layout 1 12 19; key = negsuc 11; code = given 0 }
    ∷ record { layout = layout 1 12 19; key = negsuc 2147483647; code = given 65535 }
    ∷ record { layout = layout 1 12 19; key = pos 2147483647; code = given 1 }
    ∷ record { layout = layout 0 12 19; key = negsuc 0; code = refused 4 }
    ∷ record { layout = layout 0 12 19; key = pos 0; code = refused 4 }
    ∷ []

-- Theorem: the definitions give what the examples say.
pub record ExamplesHold : Type 0 where
  -- document 01's codes, before W-207; `layout_layers` has examples of today's
  pub bytes : map byte_code (Natural ∷ Sharp 0 ∷ Sharp 99 ∷ Flat 0 ∷ Flat 99 ∷ Enharmonic 7 ∷ []) ≡ 1 ∷ 2 ∷ 101 ∷ 102 ∷ 201 ∷ 255 ∷ []
  pub strips : map (λ (e : StripExample). get_strip e.layout) strip_examples ≡ map (λ (e : StripExample). e.strip) strip_examples
  pub lamps : map (λ (e : LampExample). get_lamp e.layout e.key) lamp_examples ≡ map (λ (e : LampExample). e.code) lamp_examples
  pub long : counted (get_strip (layout 1 2400 3800)) ≡ given 2400
  -- the last strip of one-byte codes of 2 7 8, and what question 9 said
  pub old : of_layout (layout 2 7 8) (λ (l : Layout). given (byte_strip_in l)) ≡ given (0 ∷ 1 ∷ 1 ∷ 2 ∷ 102 ∷ 1 ∷ 1 ∷ [])
  pub had : map (λ (r : IsomorphicLayout). of_layout r (λ (l : Layout). given (had_lamps_in l))) (layout 1 707 1111 ∷ layout 1 714 1122 ∷ layout 1 2400 3800 ∷ [])
      ≡ given true ∷ given false ∷ given false ∷ []
  -- document 01: "code 1, 7, 11: .. strip 0 1 255 255 255 255 1", the lamps of its key table; "code 1, 2400, 3800: strip refused with 9"
  pub first : map (λ (r : IsomorphicLayout). of_layout r (λ (l : Layout). given (first_strip_in l))) (layout 1 7 11 ∷ layout 1 12 19 ∷ [])
      ≡ given (0 ∷ 1 ∷ 255 ∷ 255 ∷ 255 ∷ 255 ∷ 1 ∷ [])
      ∷ given (0 ∷ 255 ∷ 1 ∷ 1 ∷ 255 ∷ 1 ∷ 255 ∷ 1 ∷ 255 ∷ 1 ∷ 1 ∷ 255 ∷ [])
      ∷ []
  pub first_had : map (λ (r : IsomorphicLayout). of_layout r (λ (l : Layout). given (first_had_lamps_in l)))
      (layout 1 7 11 ∷ layout 1 2400 3800 ∷ [])
      ≡ given true ∷ given false ∷ []
  -- by the home rule before W-206 the entry at the octave of code 3, 8, 13 was enharmonic (in W-207's codes)
  pub earlier : of_layout (layout 3 8 13) (λ (l : Layout). given (earlier_lamp_in l 8)) ≡ given 65535
