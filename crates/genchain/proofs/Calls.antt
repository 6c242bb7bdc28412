-- From the parts to what the calls answer: one law for each way in which a call ends.
use Prim.Native.Nat.{ℕ, zero, suc, ◌≤◌, ◌<◌}
use mathlib.Core.Path.{◌≡◌, refl, sym, ap, ◌∙◌}
use mathlib.Core.Bool.{Bool, true, false}
use mathlib.Core.List.{List, [], ◌∷◌}
use native.Mathlib.Nat.{le_of_suc-le-suc, not-suc-le-zero}
use native.Mathlib.Omega.{arith}
use lib.Dec.{ltb}
use lib.ListN.{length, get_or}
use borrow.Author.Tests.{ltb-true, ltb-false}
use Rattle.answer.specs.Lent.{held_in}
use Rattle.answer.specs.Outcome.{Outcome, given, refused}
use Rattle.answer.proofs.Questions.{ask_none, ask_some, ask_above, ask_below}
use Rattle.answer.proofs.Lent.{held, not_held}
use Rattle.genchain.specs.Chains.{Chain, chains, no_chain, chain_of, row_of, fifth}
use Rattle.genchain.specs.Answers.{ask_chain, generator_outcome, num_letters_outcome, start_outcome, name_length_outcome, letters_outcome, name_outcome}
use Rattle.genchain.specs.declared.rows.ChainRow.{ChainRow}

-- question 1
pub no_chain_lem : {A : Type 0} (code : ℕ) (rest : Outcome A) → 6 ≤ code → ask_chain code rest ≡ refused 1
no_chain_lem code rest h = ask_above 1 code 6 rest h

pub some_chain : {A : Type 0} (code : ℕ) (rest : Outcome A) → code < 6 → ask_chain code rest ≡ rest
some_chain code rest h = ask_below 1 code 6 rest h

-- what the test of the code tells
module _ {b : Bool} (code : ℕ) (tested : b ≡ ltb code 6) where
  pub is_chain : b ≡ true → code < 6
  is_chain t = ltb-true code 6 (sym tested ∙ t)

  pub is_none : b ≡ false → 6 ≤ code
  is_none t = ltb-false code 6 (sym tested ∙ t)

-- a code from 6 on has the chain without letters
past : (l : List Chain) (k : ℕ) → length l ≤ k → get_or l k no_chain ≡ no_chain
past [] k h = refl
past (c ∷ l) zero h = absurd (not-suc-le-zero h)
past (c ∷ l) (suc k) h = past l k (le_of_suc-le-suc h)

pub row_of_none : (code : ℕ) → 6 ≤ code → row_of no_chain ≡ row_of (chain_of code)
unfolding chains chain_of
row_of_none code h = ap row_of (sym (past chains code h))

-- ---- the generator

module _ (code octave tritave : ℕ) where
  pub generator_no_chain : 6 ≤ code → refused 1 ≡ generator_outcome code octave tritave
  unfolding generator_outcome
  generator_no_chain h = sym (no_chain_lem code _ h)

  pub generator_no_octave : code < 6 → octave ≡ 0 → refused 2 ≡ generator_outcome code octave tritave
  unfolding generator_outcome
  generator_no_octave h e = sym (some_chain code _ h ∙ ask_none 2 octave _ e)

  pub generator_by_chain : code < 6 → (octave ≡ 0 → ⊥) → (chain_of code).generator octave tritave ≡ generator_outcome code octave tritave
  unfolding generator_outcome
  generator_by_chain h n = sym (some_chain code _ h ∙ ask_some 2 octave _ n)

-- codes 0, 1 and 2
pub chains_of_fifths : (code octave tritave : ℕ) → code < 3 → fifth octave tritave ≡ (chain_of code).generator octave tritave
unfolding chain_of
chains_of_fifths zero octave tritave h = refl
chains_of_fifths (suc zero) octave tritave h = refl
chains_of_fifths (suc (suc zero)) octave tritave h = refl
chains_of_fifths (suc (suc (suc k))) octave tritave h = absurd (omega arith)

-- ---- numbers of a chain

module _ (code : ℕ) (h : 6 ≤ code) where
  pub count_no_chain : refused 1 ≡ num_letters_outcome code
  unfolding num_letters_outcome
  count_no_chain = sym (no_chain_lem code _ h)

  pub start_no_chain : refused 1 ≡ start_outcome code
  unfolding start_outcome
  start_no_chain = sym (no_chain_lem code _ h)

  pub name_length_no_chain : refused 1 ≡ name_length_outcome code
  unfolding name_length_outcome
  name_length_no_chain = sym (no_chain_lem code _ h)

  pub letters_no_chain : (room : ℕ) → letters_outcome code room ≡ refused 1
  unfolding letters_outcome
  letters_no_chain room = no_chain_lem code _ h

  pub name_no_chain : (room : ℕ) → name_outcome code room ≡ refused 1
  unfolding name_outcome
  name_no_chain room = no_chain_lem code _ h

module _ (code : ℕ) (h : code < 6) where
  pub count_given : (row : ChainRow) → row ≡ row_of (chain_of code) → given row.num_letters ≡ num_letters_outcome code
  unfolding num_letters_outcome row_of
  count_given row e = ap (λ (r : ChainRow). given r.num_letters) e ∙ sym (some_chain code _ h)

  pub start_given : (row : ChainRow) → row ≡ row_of (chain_of code) → given row.start ≡ start_outcome code
  unfolding start_outcome row_of
  start_given row e = ap (λ (r : ChainRow). given r.start) e ∙ sym (some_chain code _ h)

  pub name_length_given : (n : ℕ) → n ≡ length (chain_of code).name → given n ≡ name_length_outcome code
  unfolding name_length_outcome
  name_length_given n e = ap given e ∙ sym (some_chain code _ h)

  pub letters_held : (room : ℕ) → length (chain_of code).letters ≤ room → letters_outcome code room ≡ given (chain_of code).letters
  unfolding letters_outcome
  letters_held room k = some_chain code _ h ∙ held room _ k

  pub letters_not_held : (room : ℕ) → room < length (chain_of code).letters → letters_outcome code room ≡ refused 10
  unfolding letters_outcome
  letters_not_held room k = some_chain code _ h ∙ not_held room (chain_of code).letters k

  pub name_by_chain : (room : ℕ) → name_outcome code room ≡ held_in room (chain_of code).name
  unfolding name_outcome
  name_by_chain room = some_chain code _ h
