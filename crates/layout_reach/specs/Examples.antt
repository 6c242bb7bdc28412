-- Worked examples, and one theorem that the definitions give them.
use Rattle.std.specs.Prelude.{ℕ, List, [], ◌∷◌, map, ◌≡◌, ℤ, pos, negsuc}
use Rattle.answer.specs.Outcome.{Outcome, given, refused}
use Rattle.layout.specs.declared.IsomorphicLayout.{IsomorphicLayout}
use Rattle.layout.specs.Layouts.{Layout}
use Rattle.layout.specs.Answers.{of_layout}
use Rattle.layout.specs.Examples.{layout, beginning}
use Rattle.layout_reach.specs.Reach.{keys_of}
use Rattle.layout_reach.specs.Answers.{get_nearest, get_reach}

pub record NearestExample : Type 0 where
  pub layout : IsomorphicLayout
  pub key : ℤ
  pub letter : ℕ
  pub nearest : Outcome ℕ

-- Of F C G D A E B, D is 3 and F is 0; `negsuc k` is −1 − k.
abbrev pub nearest_examples : List NearestExample
nearest_examples =
    -- D in 12 steps is 0: from 1; from 7, where the way up is the shorter; from an octave above
    record { layout = layout 1 12 19; key = pos 1; letter = 3; nearest = given 0 }
    ∷ record { layout = layout 1 12 19; key = pos 7; letter = 3; nearest = given 0 }
    ∷ record { layout = layout 1 12 19; key = pos 13; letter = 3; nearest = given 0 }
    -- F is 3, from −14 too
    ∷ record { layout = layout 1 12 19; key = negsuc 13; letter = 0; nearest = given 3 }
    -- two cycles: D and D* are 0 and 1; from 2 and from 12 the second is nearer, from 13 and from −1 the first
    ∷ record { layout = layout 1 24 38; key = pos 2; letter = 3; nearest = given 1 }
    ∷ record { layout = layout 1 24 38; key = pos 12; letter = 3; nearest = given 1 }
    ∷ record { layout = layout 1 24 38; key = pos 13; letter = 3; nearest = given 0 }
    ∷ record { layout = layout 1 24 38; key = negsuc 0; letter = 3; nearest = given 0 }
    -- both ends of 32 signed bits, which are 16 and 7 round the octave
    ∷ record { layout = layout 1 24 38; key = negsuc 2147483647; letter = 3; nearest = given 0 }
    ∷ record { layout = layout 1 24 38; key = pos 2147483647; letter = 3; nearest = given 1 }
    -- three cycles: D, D* and D** are 0, 1 and 2; from 19 the first and the last are equally near, and the lower is answered
    ∷ record { layout = layout 1 36 57; key = pos 19; letter = 3; nearest = given 0 }
    ∷ record { layout = layout 1 36 57; key = pos 18; letter = 3; nearest = given 2 }
    ∷ record { layout = layout 1 36 57; key = pos 37; letter = 3; nearest = given 1 }
    -- beginning on C, D is 2: from 7 and from −1
    ∷ record { layout = beginning 1 1 12 19; key = pos 7; letter = 3; nearest = given 2 }
    ∷ record { layout = beginning 1 1 12 19; key = negsuc 0; letter = 3; nearest = given 2 }
    -- an eighth letter; the layout's questions go first, 18 too
    ∷ record { layout = layout 1 12 19; key = pos 0; letter = 7; nearest = refused 16 }
    ∷ record { layout = beginning 7 1 12 19; key = pos 0; letter = 7; nearest = refused 18 }
    ∷ record { layout = layout 0 12 19; key = pos 0; letter = 9; nearest = refused 4 }
    ∷ record { layout = layout 6 0 0; key = pos 0; letter = 9; nearest = refused 1 }
    ∷ []

pub record ReachExample : Type 0 where
  pub layout : IsomorphicLayout
  pub key : ℤ
  pub distance : ℕ
  pub keys : Outcome (List ℕ)

abbrev pub reach_examples : List ReachExample
reach_examples =
    record { layout = layout 1 12 19; key = pos 5; distance = 2; keys = given (3 ∷ 4 ∷ 5 ∷ 6 ∷ 7 ∷ []) }
    ∷ record { layout = layout 1 12 19; key = pos 2; distance = 0; keys = given (2 ∷ []) }
    -- past either end of the octave: from −1, and from an octave above key 0
    ∷ record { layout = layout 1 12 19; key = negsuc 0; distance = 2; keys = given (0 ∷ 1 ∷ 9 ∷ 10 ∷ 11 ∷ []) }
    ∷ record { layout = layout 1 12 19; key = pos 12; distance = 1; keys = given (0 ∷ 1 ∷ 11 ∷ []) }
    -- all but the one at half the octave, and then all
    ∷ record { layout = layout 1 12 19; key = pos 2; distance = 5; keys = given (0 ∷ 1 ∷ 2 ∷ 3 ∷ 4 ∷ 5 ∷ 6 ∷ 7 ∷ 9 ∷ 10 ∷ 11 ∷ []) }
    ∷ record { layout = layout 1 12 19; key = pos 2; distance = 6; keys = given (0 ∷ 1 ∷ 2 ∷ 3 ∷ 4 ∷ 5 ∷ 6 ∷ 7 ∷ 8 ∷ 9 ∷ 10 ∷ 11 ∷ []) }
    ∷ record { layout = layout 1 7 11; key = pos 2; distance = 3; keys = given (0 ∷ 1 ∷ 2 ∷ 3 ∷ 4 ∷ 5 ∷ 6 ∷ []) }
    ∷ record { layout = layout 1 7 11; key = pos 2; distance = 65535; keys = given (0 ∷ 1 ∷ 2 ∷ 3 ∷ 4 ∷ 5 ∷ 6 ∷ []) }
    ∷ record { layout = beginning 7 1 12 19; key = pos 2; distance = 0; keys = refused 18 }
    ∷ record { layout = layout 2 4 6; key = pos 2; distance = 0; keys = refused 4 }
    ∷ []

-- The keys of a letter.
abbrev pub letters_keys : IsomorphicLayout → ℕ → Outcome (List ℕ)
letters_keys r letter = of_layout r (λ (l : Layout). given (keys_of l letter))

-- Theorem.
pub record ExamplesHold : Type 0 where
  pub nearests : map (λ (e : NearestExample). get_nearest e.layout e.key e.letter) nearest_examples
      ≡ map (λ (e : NearestExample). e.nearest) nearest_examples
  pub reaches : map (λ (e : ReachExample). get_reach e.layout e.key e.distance) reach_examples
      ≡ map (λ (e : ReachExample). e.keys) reach_examples
  -- D; D and D*; B, B* and B**
  pub one_d : letters_keys (layout 1 12 19) 3 ≡ given (0 ∷ [])
  pub two_ds : letters_keys (layout 1 24 38) 3 ≡ given (0 ∷ 1 ∷ [])
  pub three_bs : letters_keys (layout 1 36 57) 6 ≡ given (27 ∷ 28 ∷ 29 ∷ [])
