-- Numbers in decimal, as bytes: 48 is the digit 0, 57 the digit 9.
use Rattle.std.specs.Prelude.{ℕ, zero, suc, ◌+◌, ◌-◌, ◌*◌, ◌/◌, ◌%◌, ◌≤◌, Bool, true, false, ◌&&◌, List, [], ◌∷◌, ◌++◌, Option, Some, None, ◌≡◌, length, get_or, drop, leb, ltb}
use Rattle.answer.specs.Choice.{pick}

-- ---- reading

abbrev pub is_digit : ℕ → Bool
is_digit byte = leb 48 byte && leb byte 57

-- The digits that a text begins with.
unfoldable pub leading : List ℕ → List ℕ
leading [] = []
leading (byte ∷ rest) = elim (is_digit byte) [ true ↦ byte ∷ leading rest | false ↦ [] ]

-- The number that digits say, behind digits that say `sofar`: ten times what stands before a digit, plus the digit.
unfoldable pub value_from : ℕ → List ℕ → ℕ
value_from sofar [] = sofar
value_from sofar (digit ∷ rest) = value_from (10 * sofar + (digit - 48)) rest

-- The number that digits say. Leading zeros change nothing.
abbrev pub value : List ℕ → ℕ
value text = value_from 0 text

-- ---- reading at a place

-- The digits that begin at a place, the number that they say, and the place after them.
unfoldable pub digits_at : List ℕ → ℕ → List ℕ
unfolding leading
digits_at text at = leading (drop at text)

unfoldable pub value_at : List ℕ → ℕ → ℕ
unfolding digits_at value_from
value_at text at = value (digits_at text at)

unfoldable pub end_at : List ℕ → ℕ → ℕ
unfolding digits_at
end_at text at = at + length (digits_at text at)

-- A number of 16 bits: 1 to 5 digits, which say at most 65,535.
unfoldable pub is_number : List ℕ → ℕ → Bool
unfolding digits_at value_at
is_number text at = leb 1 (length (digits_at text at)) && leb (length (digits_at text at)) 5 && leb (value_at text at) 65535

-- A number that was read, and the place after it.
abbrev pub numeral : ℕ → ℕ → Option (ℕ × ℕ)
numeral value next = Some (value, next)

-- The number at a place, and the place after its digits.
unfoldable pub number_at : List ℕ → ℕ → Option (ℕ × ℕ)
unfolding is_number value_at end_at
number_at text at = pick (is_number text at) (numeral (value_at text at) (end_at text at)) None

-- What `digit_at` promises: the digit at a place, where one stands there.
unfoldable pub digit_at : List ℕ → ℕ → Option ℕ
digit_at text at = pick (is_digit (get_or text at 0)) (Some (get_or text at 0 - 48)) None

-- ---- writing

-- The last digits of a number, as many as it has and at most `most`.
unfoldable pub last_digits : ℕ → ℕ → List ℕ
last_digits zero n = []
last_digits (suc most) n =
    elim (ltb n 10) [ true ↦ (48 + n) ∷ [] | false ↦ last_digits most (n / 10) ++ ((48 + n % 10) ∷ []) ]

-- A number in decimal, without leading zeros; n + 1 digits are always enough for n.
unfoldable pub digits : ℕ → List ℕ
unfolding last_digits
digits n = last_digits (n + 1) n

-- What `number_len` promises of a number below 65,536.
pub record DigitsLength (n r : ℕ) : Type 0 where
  pub is_length : r ≡ length (digits n)
  pub some : 1 ≤ r
  pub few : r ≤ 5
