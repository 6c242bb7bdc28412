-- The six chains as data (document 01, "The six chains", and "Step patterns" for the scale names): a record for each row of its
-- table, in the order of the codes.
use Rattle.std.specs.Prelude.{ℕ, ◌-◌, ◌*◌, ◌/◌, ◌%◌, ◌<◌, ◌≡◌, List, [], ◌∷◌, ◌++◌, length, get_or, take, replicate, leb, eqb}
use Rattle.answer.specs.Outcome.{Outcome, given, ask, and_then}
use Rattle.genchain.specs.declared.rows.ChainRow.{ChainRow}

-- ---- the column "generator", by question 3: "Does the chain's generator below come out whole and not negative, every
-- subtraction included, and for code 3 is 2 × octave at most 65,535?"

-- a subtraction that is not negative
abbrev pub minus : ℕ → ℕ → Outcome ℕ
minus a b = ask 3 (leb b a) (given (a - b))

-- a division that comes out whole
abbrev pub divided_by : ℕ → ℕ → Outcome ℕ
divided_by d a = ask 3 (eqb (a % d) 0) (given (a / d))

abbrev pub twice : ℕ → Outcome ℕ
twice a = ask 3 (leb (2 * a) 65535) (given (2 * a))

-- "tritave − octave"
abbrev pub fifth : ℕ → ℕ → Outcome ℕ
fifth octave tritave = minus tritave octave

-- "(2 × octave − tritave) / 3"
abbrev pub third_of_fourth : ℕ → ℕ → Outcome ℕ
third_of_fourth octave tritave = and_then (and_then (twice octave) (λ (d : ℕ). minus d tritave)) (divided_by 3)

-- "(tritave − octave) / 4"
abbrev pub quarter_of_fifth : ℕ → ℕ → Outcome ℕ
quarter_of_fifth octave tritave = and_then (minus tritave octave) (divided_by 4)

-- "octave − tritave / 6"
abbrev pub octave_less_sixth : ℕ → ℕ → Outcome ℕ
octave_less_sixth octave tritave = and_then (divided_by 6 tritave) (λ (sixth : ℕ). minus octave sixth)

-- ---- the table

pub record Chain : Type 0 where
  -- the column "chain", in UTF-8
  pub name : List ℕ
  -- the column "letters", as code points: A is 65, β is 946, φ is 966
  pub letters : List ℕ
  -- "Start is the place, from 0, of the letter of key 0."
  pub start : ℕ
  -- from octave and tritave
  pub generator : ℕ → ℕ → Outcome ℕ
  -- "Scale names, sharpness above / below 0", in ASCII
  pub scale_above : List ℕ
  pub scale_below : List ℕ

unfoldable pub chains : List Chain
chains =
    -- 0, Mavila[9]: β F C G D A E B φ; armotonic / balzano
    record {
      name = 77 ∷ 97 ∷ 118 ∷ 105 ∷ 108 ∷ 97 ∷ 91 ∷ 57 ∷ 93 ∷ [];
      letters = 946 ∷ 70 ∷ 67 ∷ 71 ∷ 68 ∷ 65 ∷ 69 ∷ 66 ∷ 966 ∷ [];
      start = 4;
      generator = fifth;
      scale_above = 97 ∷ 114 ∷ 109 ∷ 111 ∷ 116 ∷ 111 ∷ 110 ∷ 105 ∷ 99 ∷ [];
      scale_below = 98 ∷ 97 ∷ 108 ∷ 122 ∷ 97 ∷ 110 ∷ 111 ∷ [];
    }
    -- 1, Meantone[7]: F C G D A E B; diatonic / antidiatonic
    ∷ record {
      name = 77 ∷ 101 ∷ 97 ∷ 110 ∷ 116 ∷ 111 ∷ 110 ∷ 101 ∷ 91 ∷ 55 ∷ 93 ∷ [];
      letters = 70 ∷ 67 ∷ 71 ∷ 68 ∷ 65 ∷ 69 ∷ 66 ∷ [];
      start = 3;
      generator = fifth;
      scale_above = 100 ∷ 105 ∷ 97 ∷ 116 ∷ 111 ∷ 110 ∷ 105 ∷ 99 ∷ [];
      scale_below = 97 ∷ 110 ∷ 116 ∷ 105 ∷ 100 ∷ 105 ∷ 97 ∷ 116 ∷ 111 ∷ 110 ∷ 105 ∷ 99 ∷ [];
    }
    -- 2, Meantone[5]: C G D A E; antipentic / pentic
    ∷ record {
      name = 77 ∷ 101 ∷ 97 ∷ 110 ∷ 116 ∷ 111 ∷ 110 ∷ 101 ∷ 91 ∷ 53 ∷ 93 ∷ [];
      letters = 67 ∷ 71 ∷ 68 ∷ 65 ∷ 69 ∷ [];
      start = 2;
      generator = fifth;
      scale_above = 97 ∷ 110 ∷ 116 ∷ 105 ∷ 112 ∷ 101 ∷ 110 ∷ 116 ∷ 105 ∷ 99 ∷ [];
      scale_below = 112 ∷ 101 ∷ 110 ∷ 116 ∷ 105 ∷ 99 ∷ [];
    }
    -- 3, Porcupine[8]: A B C D E F G H; pine / antipine
    ∷ record {
      name = 80 ∷ 111 ∷ 114 ∷ 99 ∷ 117 ∷ 112 ∷ 105 ∷ 110 ∷ 101 ∷ 91 ∷ 56 ∷ 93 ∷ [];
      letters = 65 ∷ 66 ∷ 67 ∷ 68 ∷ 69 ∷ 70 ∷ 71 ∷ 72 ∷ [];
      start = 3;
      generator = third_of_fourth;
      scale_above = 112 ∷ 105 ∷ 110 ∷ 101 ∷ [];
      scale_below = 97 ∷ 110 ∷ 116 ∷ 105 ∷ 112 ∷ 105 ∷ 110 ∷ 101 ∷ [];
    }
    -- 4, Tetracot[7]: A B C D E F G; archeotonic / onyx
    ∷ record {
      name = 84 ∷ 101 ∷ 116 ∷ 114 ∷ 97 ∷ 99 ∷ 111 ∷ 116 ∷ 91 ∷ 55 ∷ 93 ∷ [];
      letters = 65 ∷ 66 ∷ 67 ∷ 68 ∷ 69 ∷ 70 ∷ 71 ∷ [];
      start = 3;
      generator = quarter_of_fifth;
      scale_above = 97 ∷ 114 ∷ 99 ∷ 104 ∷ 101 ∷ 111 ∷ 116 ∷ 111 ∷ 110 ∷ 105 ∷ 99 ∷ [];
      scale_below = 111 ∷ 110 ∷ 121 ∷ 120 ∷ [];
    }
    -- 5, Hanson[7]: C A F D B G E; smitonic / mosh
    ∷ record {
      name = 72 ∷ 97 ∷ 110 ∷ 115 ∷ 111 ∷ 110 ∷ 91 ∷ 55 ∷ 93 ∷ [];
      letters = 67 ∷ 65 ∷ 70 ∷ 68 ∷ 66 ∷ 71 ∷ 69 ∷ [];
      start = 3;
      generator = octave_less_sixth;
      scale_above = 115 ∷ 109 ∷ 105 ∷ 116 ∷ 111 ∷ 110 ∷ 105 ∷ 99 ∷ [];
      scale_below = 109 ∷ 111 ∷ 115 ∷ 104 ∷ [];
    }
    ∷ []

-- "at 0 always equalized"
abbrev pub equalized : List ℕ
equalized = 101 ∷ 113 ∷ 117 ∷ 97 ∷ 108 ∷ 105 ∷ 122 ∷ 101 ∷ 100 ∷ []

-- What stands for a code from 6 on: no letters, no names.
abbrev pub no_chain : Chain
no_chain = record { name = []; letters = []; start = 0; generator = fifth; scale_above = []; scale_below = [] }

-- The chain of a code.
unfoldable pub chain_of : ℕ → Chain
unfolding chains
chain_of code = get_or chains code no_chain

-- ---- "The static letter lists become one constant table, rows of nine": the code's row of a chain, 0 past the last letter

abbrev pub padded : List ℕ → List ℕ
padded letters = take 9 (letters ++ replicate 9 0)

unfoldable pub row_of : Chain → ChainRow
row_of c = record { letters = padded c.letters; num_letters = length c.letters; start = c.start }

-- A row of the table.
pub record TableRow (row : ChainRow) : Type 0 where
  pub code : ℕ
  pub below : code < 6
  pub is : row ≡ row_of (chain_of code)

-- The letters in a row.
unfoldable pub letters_in : ChainRow → List ℕ
letters_in row = take row.num_letters row.letters
