-- Worked examples, and one theorem that the definitions give them.
use Rattle.std.specs.Prelude.{ℕ, List, [], ◌∷◌, map, ◌≡◌, ℤ, pos, negsuc}
use Rattle.answer.specs.Outcome.{Outcome, given, refused}
use Rattle.answer.specs.Lent.{counted, written}
use Rattle.layout.specs.declared.IsomorphicLayout.{IsomorphicLayout}
use Rattle.layout.specs.Examples.{layout, beginning}
use Rattle.layout_sheet.specs.declared.Record.{Record}
use Rattle.layout_sheet.specs.Answers.{get_sheet}

-- Key, sharp index and count, flat index and count, stars, lamp.
abbrev pub line : ℤ → (sharpIndex sharps flatIndex flats stars lamp : ℕ) → Record
line key sharpIndex sharps flatIndex flats stars lamp =
    record {
      key = key;
      sharp_index = sharpIndex;
      sharp_count = sharps;
      flat_index = flatIndex;
      flat_count = flats;
      stars = stars;
      lamp = lamp;
    }

-- A key that is asked for, in a record that still holds something else.
abbrev pub asked : ℤ → Record
asked key = line key 9 8 7 6 5 4

pub record SheetExample : Type 0 where
  pub layout : IsomorphicLayout
  pub before : List Record
  pub count : Outcome ℕ
  pub after : List Record

-- `negsuc k` is −1 − k. Of F C G D A E B, D is 3, E 5, C 1, A 4, F 0, G 2.
abbrev pub sheet_examples : List SheetExample
sheet_examples =
    -- D#/Eb, D, D#/Eb again, C#/Db below 0, D an octave above and below, both ends of 32 signed bits: in list order
    record {
      layout = layout 1 12 19;
      before = asked (pos 1) ∷ asked (pos 0) ∷ line (pos 1) 0 0 0 0 0 0 ∷ asked (negsuc 0) ∷ asked (pos 12) ∷ asked (negsuc 11)
          ∷ asked (pos 2147483647) ∷ asked (negsuc 2147483647) ∷ [];
      count = given 8;
      after =
          line (pos 1) 3 1 5 1 0 65535
          ∷ line (pos 0) 3 0 3 0 0 0
          ∷ line (pos 1) 3 1 5 1 0 65535
          ∷ line (negsuc 0) 1 1 3 1 0 65535
          ∷ line (pos 12) 3 0 3 0 0 0
          ∷ line (negsuc 11) 3 0 3 0 0 0
          ∷ line (pos 2147483647) 4 0 4 0 0 1
          ∷ line (negsuc 2147483647) 0 1 2 1 0 65535
          ∷ [];
    }
    -- stars: (D#/Eb)*, (D#/Eb), (C#/Db)* below 0, D* an octave above
    ∷ record {
      layout = layout 1 24 38;
      before = asked (pos 3) ∷ asked (pos 2) ∷ asked (negsuc 0) ∷ asked (pos 25) ∷ [];
      count = given 4;
      after = line (pos 3) 3 1 5 1 1 3 ∷ line (pos 2) 3 1 5 1 0 65535 ∷ line (negsuc 0) 1 1 3 1 1 3 ∷ line (pos 25) 3 0 3 0 1 2 ∷ [];
    }
    -- more flats than sharps, F# and Gbbb
    ∷ record { layout = layout 1 31 49; before = asked (pos 7) ∷ []; count = given 1; after = line (pos 7) 5 1 2 3 0 2 ∷ [] }
    -- "equalized": a strip of two octaves, here both alike
    ∷ record {
      layout = layout 1 7 11;
      before = asked (pos 8) ∷ asked (pos 7) ∷ asked (pos 2) ∷ asked (negsuc 7) ∷ [];
      count = given 4;
      after = line (pos 8) 5 0 5 0 0 1 ∷ line (pos 7) 3 0 3 0 0 0 ∷ line (pos 2) 0 0 0 0 0 65535 ∷ line (negsuc 7) 1 0 1 0 0 1 ∷ [];
    }
    -- and here not: keys an octave apart have one name and two colours, below 0 too
    ∷ record {
      layout = layout 3 8 13;
      before = asked (pos 1) ∷ asked (pos 9) ∷ asked (pos 17) ∷ asked (pos 8) ∷ asked (negsuc 0) ∷ asked (negsuc 8)
          ∷ asked (negsuc 2147483647) ∷ [];
      count = given 7;
      after =
          line (pos 1) 4 0 4 0 0 1
          ∷ line (pos 9) 4 0 4 0 0 65535
          ∷ line (pos 17) 4 0 4 0 0 1
          ∷ line (pos 8) 3 0 3 0 0 0
          ∷ line (negsuc 0) 2 0 2 0 0 1
          ∷ line (negsuc 8) 2 0 2 0 0 65535
          ∷ line (negsuc 2147483647) 3 0 3 0 0 0
          ∷ [];
    }
    -- beginning on C
    ∷ record {
      layout = beginning 1 1 12 19;
      before = asked (negsuc 0) ∷ asked (pos 0) ∷ [];
      count = given 2;
      after = line (negsuc 0) 6 0 6 0 0 1 ∷ line (pos 0) 1 0 1 0 0 0 ∷ [];
    }
    -- none, in an accepted layout; refused layouts, whose records stay as they are, and none in one
    ∷ record { layout = layout 1 12 19; before = []; count = given 0; after = [] }
    ∷ record {
      layout = layout 0 12 19;
      before = asked (pos 1) ∷ asked (pos 0) ∷ [];
      count = refused 4;
      after = asked (pos 1) ∷ asked (pos 0) ∷ [];
    }
    ∷ record { layout = beginning 7 1 12 19; before = asked (pos 1) ∷ []; count = refused 18; after = asked (pos 1) ∷ [] }
    ∷ record { layout = layout 6 0 0; before = []; count = refused 1; after = [] }
    ∷ []

-- Theorem: the definitions give what the examples say.
pub record ExamplesHold : Type 0 where
  pub counts : map (λ (e : SheetExample). counted (get_sheet e.layout e.before)) sheet_examples
      ≡ map (λ (e : SheetExample). e.count) sheet_examples
  pub sheets : map (λ (e : SheetExample). written (get_sheet e.layout e.before) e.before) sheet_examples
      ≡ map (λ (e : SheetExample). e.after) sheet_examples
