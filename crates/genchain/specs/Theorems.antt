-- The theorems on the chains: what a reader of key names may rely on. Proofs: proofs/.
use Rattle.std.specs.Prelude.{ℕ, ◌≤◌, ◌<◌, ◌≡◌, ◌⊎◌, length, get_or}
use Rattle.genchain.specs.Chains.{Chain, chain_of}

-- A letter is a capital from A (65) to Z (90), one byte in UTF-8, or a code point of two bytes (128 to 2047), both of them
-- above 127: so none of its bytes is a sign, a slash, a parenthesis or a star.
abbrev pub IsLetter : ℕ → Type 0
IsLetter c = ((65 ≤ c) × (c ≤ 90)) ⊎ ((128 ≤ c) × (c ≤ 2047))

pub record GoodChain (c : Chain) : Type 0 where
  -- five to nine letters,
  pub at_least_five : 5 ≤ length c.letters
  pub at_most_nine : length c.letters ≤ 9
  -- key 0's among them,
  pub start_below : c.start < length c.letters
  -- each a letter,
  pub letters : (i : ℕ) → i < length c.letters → IsLetter (get_or c.letters i 0)
  -- and no two places with the same one.
  pub distinct : (i j : ℕ) → i < length c.letters → j < length c.letters → get_or c.letters i 0 ≡ get_or c.letters j 0 → i ≡ j

abbrev pub ChainsAreGood : Type 0
ChainsAreGood = (code : ℕ) → code < 6 → GoodChain (chain_of code)
