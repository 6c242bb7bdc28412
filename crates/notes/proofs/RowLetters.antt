-- A letter read from a row of the table is the chain's, and takes at most two bytes.
use Prim.Native.Nat.{ℕ, zero, suc, ◌<◌, ◌≤◌}
use mathlib.Core.Path.{◌≡◌, refl, sym, ◌∙◌}
use mathlib.Core.Logic.{inl, inr}
use mathlib.Core.List.{List, [], ◌∷◌}
use native.Mathlib.Nat.{le_of_suc-le-suc, not-suc-le-zero}
use native.Mathlib.Omega.{arith}
use lib.ListN.{length, get_or, get_or-eq_default}
use lib.Seq.{get_or-take}
use Rattle.genchain.specs.Chains.{chain_of, TableRow, letters_in}
use Rattle.genchain.specs.Theorems.{IsLetter}
use Rattle.genchain.specs.declared.rows.ChainRow.{ChainRow}
use Rattle.genchain.proofs.TableRows.{row_length, row_count, row_letters, row_count_small, length_letters_in}
use Rattle.genchain.proofs.GoodChains.{chains_are_good}
use Rattle.notes.specs.Names.{letter_at}

-- what stands for a missing element does not matter where there is one
pub get_d_other : {A : Type 0} (l : List A) (i : ℕ) (d e : A) → i < length l → get_or l i d ≡ get_or l i e
get_d_other [] i d e h = absurd (not-suc-le-zero h)
get_d_other (x ∷ l) zero d e h = refl
get_d_other (x ∷ l) (suc i) d e h = get_d_other l i d e (le_of_suc-le-suc h)

two_bytes : (c : ℕ) → IsLetter c → c < 2048
two_bytes c (inl h) = omega arith
two_bytes c (inr h) = omega arith

-- a chain's letter
pub chain_letter : (code : ℕ) → code < 6 → (i : ℕ) → i < length (chain_of code).letters → IsLetter (letter_at (chain_of code).letters i)
unfolding letter_at
chain_letter code h i k = rw (get_d_other (chain_of code).letters i 63 0 k) ((chains_are_good code h).letters i k)

-- and its only place
pub chain_place_lem : (code : ℕ) → code < 6 → (i j : ℕ) → i < length (chain_of code).letters → j < length (chain_of code).letters
    → letter_at (chain_of code).letters i ≡ letter_at (chain_of code).letters j → i ≡ j
unfolding letter_at
chain_place_lem code h i j hi hj e =
    let l = (chain_of code).letters in
    (chains_are_good code h).distinct i j hi hj (get_d_other l i 0 63 hi ∙ e ∙ get_d_other l j 63 0 hj)

module _ (row : ChainRow) (t : TableRow row) (i : ℕ) where
  pub letter_inside : i < row.num_letters → get_or row.letters i 0 ≡ letter_at (letters_in row) i
  unfolding letter_at letters_in
  letter_inside h =
      get_d_other row.letters i 0 63 (omega (arith, row_length row t, row_count_small row t))
      ∙ sym (get_or-take row.num_letters row.letters i 63 h)

  pub letter_past : row.num_letters ≤ i → 63 ≡ letter_at (letters_in row) i
  unfolding letter_at
  letter_past h = sym (get_or-eq_default (letters_in row) 63 (omega (arith, length_letters_in row t)))

  pub letter_small : i < row.num_letters → get_or row.letters i 0 < 2048
  letter_small h =
      rw (letter_inside h)
      (rw (row_letters row t) (two_bytes _ (chain_letter t.code t.below i (omega (arith, row_count row t)))))
