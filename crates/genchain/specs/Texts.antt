-- What the parts behind the calls promise: the texts by the table that the code carries.
use Rattle.std.specs.Prelude.{ℕ, ◌<◌, ◌≡◌, List, [], ◌∷◌, ◌++◌, length, get_or, take, replicate}
use Rattle.genchain.specs.Chains.{Chain, chains, equalized}
use Rattle.genchain.specs.declared.names.TextRow.{TextRow}

-- For each chain its name, and its scale's for sharpness above and below 0.
abbrev pub in_turn : List Chain → List (List ℕ)
in_turn [] = []
in_turn (c ∷ cs) = c.name ∷ c.scale_above ∷ c.scale_below ∷ in_turn cs

unfoldable pub texts : List (List ℕ)
unfolding chains
texts = equalized ∷ in_turn chains

-- The text at a place of the table.
unfoldable pub text_at : ℕ → List ℕ
unfolding texts
text_at place = get_or texts place []

-- A place of the table, and the text that stands there.
pub record PlaceOf (text : List ℕ) (place : ℕ) : Type 0 where
  pub below : place < 19
  pub is : text_at place ≡ text

-- A text in a row of twelve bytes, 0 past its end, and its length.
unfoldable pub text_row_of : List ℕ → TextRow
text_row_of text = record { text = take 12 (text ++ replicate 12 0); length = length text }
