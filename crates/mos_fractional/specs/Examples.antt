-- Worked examples of the definitions, and one theorem that they hold. `fin s m e` is the number m × 2ᵉ, below 0 where s is true; `pos k` is
-- k and `negsuc k` is −1 − k.
use Rattle.std.specs.Prelude.{ℕ, ◌≡◌, true, false, List, [], ◌∷◌, map, pos, negsuc, Float, Option, None, Some, slice_get, option_map}
use Rattle.std.specs.Float.{nan, inf, fin, binary64}
use Rattle.std.specs.Float.Ieee.{of_bits}
use Rattle.answer.specs.Outcome.{Outcome, given, refused}
use Rattle.answer.specs.Lent.{counted, written}
use Rattle.mos_fractional.specs.declared.FractionalMos.{FractionalMos}
use Rattle.mos_fractional.specs.Fractional.{fractional, primaries, secondaries, nought, one, genesis, child_of}
use Rattle.mos_fractional.specs.Walk.{children_from}
use Rattle.mos_fractional.specs.Answers.{genesis_outcome, listing_outcome}

-- 5/8, 3/8, 1/4 and 1/8, as doubles have them.
abbrev pub five_eighths : Float
five_eighths = fin false 5 (negsuc 2)

abbrev pub three_eighths : Float
three_eighths = fin false 3 (negsuc 2)

abbrev pub quarter : Float
quarter = fin false 1 (negsuc 1)

abbrev pub eighth : Float
eighth = fin false 1 (negsuc 2)

-- The just fifth, log₂ 3/2, as the double nearest to it.
abbrev pub fifth : Float
fifth = of_bits binary64 0x3fe2b803473f7ad1

abbrev pub counts : FractionalMos → List ℕ
counts m = primaries m ∷ secondaries m ∷ []

-- A generator and its genesis.
pub record GenesisExample : Type 0 where
  pub generator : Float
  pub genesis : Outcome FractionalMos

abbrev pub genesis_examples : List GenesisExample
genesis_examples =
    record { generator = five_eighths; genesis = given (fractional 1 1 five_eighths three_eighths) }
    -- 13/8, an octave higher, and −3/8, an octave lower
    ∷ record { generator = fin false 13 (negsuc 2); genesis = given (fractional 1 1 five_eighths three_eighths) }
    ∷ record { generator = fin true 3 (negsuc 2); genesis = given (fractional 1 1 five_eighths three_eighths) }
    -- 0 and 1 leave +0, −1 leaves −0, which is not below 0
    ∷ record { generator = nought; genesis = given (fractional 1 1 nought one) }
    ∷ record { generator = one; genesis = given (fractional 1 1 nought one) }
    ∷ record { generator = fin true 1 (pos 0); genesis = given (fractional 1 1 (fin true 0 (pos 0)) one) }
    -- −2⁻⁶⁰: the sum with 1 is rounded, to 1
    ∷ record { generator = fin true 1 (negsuc 59); genesis = given (fractional 1 1 one nought) }
    -- the largest double is whole
    ∷ record { generator = of_bits binary64 0x7fefffffffffffff; genesis = given (fractional 1 1 nought one) }
    -- no numbers
    ∷ record { generator = inf false; genesis = refused 22 }
    ∷ record { generator = inf true; genesis = refused 22 }
    ∷ record { generator = nan; genesis = refused 22 }
    ∷ []

-- A record, whoever made it, and its child.
pub record ChildExample : Type 0 where
  pub pattern : FractionalMos
  pub child : Option FractionalMos

abbrev pub child_examples : List ChildExample
child_examples =
    record { pattern = fractional 1 1 five_eighths three_eighths; child = Some (fractional 1 2 quarter three_eighths) }
    ∷ record { pattern = fractional 1 2 quarter three_eighths; child = Some (fractional 3 2 quarter eighth) }
    -- equal steps, and a step of 0 of either sign
    ∷ record { pattern = fractional 3 5 one one; child = None }
    ∷ record { pattern = fractional 1 1 nought one; child = None }
    ∷ record { pattern = fractional 1 1 one (fin true 0 (pos 0)); child = None }
    -- counts that sum to 65,535, and to one more
    ∷ record { pattern = fractional 65534 1 one (fin false 1 (pos 1)); child = Some (fractional 65535 1 one one) }
    ∷ record { pattern = fractional 65535 1 one (fin false 1 (pos 1)); child = None }
    -- an infinite step, a step that is not a number, and one below 0
    ∷ record { pattern = fractional 1 1 (inf false) one; child = Some (fractional 1 2 (inf false) one) }
    ∷ record { pattern = fractional 1 1 nan one; child = None }
    ∷ record { pattern = fractional 1 1 (fin true 1 (pos 0)) one; child = Some (fractional 2 1 (fin true 1 (pos 0)) (fin false 1 (pos 1))) }
    ∷ []

-- The walk of 5/8.
abbrev pub walk_of_five_eighths : List FractionalMos
walk_of_five_eighths =
    fractional 1 1 five_eighths three_eighths
    ∷ fractional 1 2 quarter three_eighths
    ∷ fractional 3 2 quarter eighth
    ∷ fractional 3 5 eighth eighth
    ∷ []

-- Theorem.
pub record ExamplesHold : Type 0 where
  pub geneses : map (λ (e : GenesisExample). genesis_outcome e.generator) genesis_examples
      ≡ map (λ (e : GenesisExample). e.genesis) genesis_examples
  pub kids : map (λ (e : ChildExample). child_of e.pattern) child_examples ≡ map (λ (e : ChildExample). e.child) child_examples
  pub walk : children_from five_eighths ≡ walk_of_five_eighths
  -- the fifth's patterns: 2, 3, 5, 7, 12 and 17 notes
  pub fifths : map (λ (k : ℕ). option_map counts (slice_get (children_from fifth) k)) (0 ∷ 1 ∷ 2 ∷ 3 ∷ 4 ∷ 5 ∷ [])
      ≡ Some (1 ∷ 1 ∷ []) ∷ Some (1 ∷ 2 ∷ []) ∷ Some (3 ∷ 2 ∷ []) ∷ Some (5 ∷ 2 ∷ []) ∷ Some (5 ∷ 7 ∷ []) ∷ Some (5 ∷ 12 ∷ []) ∷ []
  -- a listing with one pattern of room to spare, with just enough, with one too few, and of no number, however short the slice
  pub spare : written (listing_outcome five_eighths 5) (genesis one ∷ genesis one ∷ genesis one ∷ genesis one ∷ fractional 7 8 one one ∷ [])
      ≡ fractional 1 1 five_eighths three_eighths
      ∷ fractional 1 2 quarter three_eighths
      ∷ fractional 3 2 quarter eighth
      ∷ fractional 3 5 eighth eighth
      ∷ fractional 7 8 one one
      ∷ []
  pub rooms : map (λ (room : ℕ). counted (listing_outcome five_eighths room)) (5 ∷ 4 ∷ 3 ∷ 0 ∷ [])
      ≡ given 4 ∷ given 4 ∷ refused 10 ∷ refused 10 ∷ []
  pub short : written (listing_outcome five_eighths 1) (fractional 7 8 one one ∷ []) ≡ fractional 7 8 one one ∷ []
  pub no_number : listing_outcome nan 0 ≡ refused 22
