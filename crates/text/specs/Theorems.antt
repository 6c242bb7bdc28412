-- What is written is read back: statements; their proofs stand in proofs/.
use Rattle.std.specs.Prelude.{ℕ, ◌+◌, ◌<◌, false, List, ◌∷◌, ◌++◌, ◌≡◌, length}
use Rattle.text.specs.Decimal.{is_digit, value, digits, DigitsLength, numeral, number_at}
use Rattle.text.specs.LittleEndian.{le32, value32}

-- Theorem: a number is read back from its digits; one below 65,536 has 1 to 5 of them, and is read back where it stands in a text,
-- whatever comes before it, if the byte behind it is no digit.
pub record DigitsReadBack : Type 0 where
  pub back : (n : ℕ) → value (digits n) ≡ n
  pub lengths : (n : ℕ) → n < 65536 → DigitsLength n (length (digits n))
  pub in_text : (n byte : ℕ) (before rest : List ℕ) → n < 65536 → is_digit byte ≡ false
      → number_at (before ++ (digits n ++ byte ∷ rest)) (length before) ≡ numeral n (length before + length (digits n))

-- Theorem: a number below 2³² is read back from its four bytes, whatever stands before and behind them.
abbrev pub FourBytesReadBack : Type 0
FourBytesReadBack = (n : ℕ) (before behind : List ℕ) → n < 4294967296 → value32 (before ++ le32 n ++ behind) (length before) ≡ n
