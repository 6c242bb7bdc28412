-- The table is `map row_of chains`. A row of it holds its chain's letters, and nothing but zeros behind them.
use mathlib.Core.Path.{◌≡◌, sym, ap, ◌∙◌}
use mathlib.Core.List.{List, map, ◌++◌}
use Prim.Native.Nat.{ℕ, ◌<◌, ◌≤◌}
use native.Mathlib.Omega.{arith}
use lib.ListN.{length, get_or, take, replicate, length-append, length-replicate}
use lib.Seq.{length-take-le, take-take, take-append_seam}
use Rattle.text.proofs.Copying.{mapped_at}
use Rattle.genchain.specs.Chains.{Chain, chains, no_chain, chain_of, padded, row_of, TableRow, letters_in}
use Rattle.genchain.specs.Theorems.{GoodChain}
use Rattle.genchain.specs.declared.rows.ChainRow.{ChainRow}
use Rattle.genchain.proofs.GoodChains.{chains_are_good}

-- the table's rule, which each reading cites: what is `map row_of chains` has at each code the row of the code's chain
pub row_at : {table : List ChainRow} → table ≡ map row_of chains → (code : ℕ) (none : ChainRow) → code < 6 → get_or table code none ≡ row_of (chain_of code)
unfolding chains chain_of
row_at is code none h = ap (λ (t : List ChainRow). get_or t code none) is ∙ mapped_at row_of chains code none no_chain h

-- at a constant place: the numbers of the row there are those of the code's chain
pub numbers_at : {code place : ℕ} {row : ChainRow} {count start : ℕ} → code ≡ place → row ≡ row_of (chain_of place)
    → (count ≡ row.num_letters) × (start ≡ row.start) → (count ≡ length (chain_of code).letters) × (start ≡ (chain_of code).start)
unfolding row_of
numbers_at {row = row} e is said =
    let is_row = is ∙ ap (λ (c : ℕ). row_of (chain_of c)) (sym e) in
    (said.0 ∙ ap (λ (r : ChainRow). r.num_letters) is_row, said.1 ∙ ap (λ (r : ChainRow). r.start) is_row)

length_padded : (l : List ℕ) → length (padded l) ≡ 9
length_padded l =
    length-take-le 9 (l ++ replicate 9 0) (omega (arith, length-append l (replicate 9 0), length-replicate {A = ℕ} 9 0))

padded_front : (l : List ℕ) → length l ≤ 9 → take (length l) (padded l) ≡ l
padded_front l h = take-take (length l) 9 (l ++ replicate 9 0) h ∙ take-append_seam l (replicate 9 0)

-- the letters in a chain's row are the chain's
pub letters_in_row : (c : Chain) → length c.letters ≤ 9 → letters_in (row_of c) ≡ c.letters
unfolding letters_in row_of
letters_in_row c h = padded_front c.letters h

module _ (row : ChainRow) (t : TableRow row) where
  -- the chain that it stands for
  abbrev chain : Chain
  chain = chain_of t.code

  pub row_good : GoodChain chain
  row_good = chains_are_good t.code t.below

  pub row_length : length row.letters ≡ 9
  unfolding row_of
  row_length = rw t.is (length_padded chain.letters)

  pub row_count : row.num_letters ≡ length chain.letters
  unfolding row_of
  row_count = ap (λ (r : ChainRow). r.num_letters) t.is

  pub row_start : row.start ≡ chain.start
  unfolding row_of
  row_start = ap (λ (r : ChainRow). r.start) t.is

  pub row_letters : letters_in row ≡ chain.letters
  row_letters = ap letters_in t.is ∙ letters_in_row chain row_good.at_most_nine

  pub row_count_small : row.num_letters ≤ 9
  row_count_small = omega (arith, row_count, row_good.at_most_nine)

  -- as many as the row says
  pub length_letters_in : length (letters_in row) ≡ row.num_letters
  length_letters_in = ap length row_letters ∙ sym row_count

-- what `row` promises
abbrev pub table_row : (code : ℕ) (row : ChainRow) → code < 6 → row ≡ row_of (chain_of code) → TableRow row
table_row code row h e = record { code = code; below = h; is = e }
