-- The table of texts: where each chain's three stand, and that twelve bytes hold each text.
use Prim.Native.Nat.{ℕ, zero, suc, ◌+◌, ◌*◌, ◌<◌, ◌≤◌}
use mathlib.Core.Path.{◌≡◌, refl, ap, ◌∙◌}
use mathlib.Core.List.{List, [], ◌++◌}
use native.Mathlib.Omega.{arith}
use lib.ListN.{length, take, replicate, length-append, length-replicate}
use lib.Seq.{length-take-le, take-take, take-append_seam}
use lib.Dec.{leb}
use borrow.Author.Tests.{leb-true}
use Rattle.answer.proofs.Asked.{all_at}
use Rattle.genchain.specs.Chains.{chain_of, equalized}
use Rattle.genchain.specs.Texts.{texts, text_at, text_row_of}
use Rattle.genchain.specs.declared.names.TextRow.{TextRow}

-- ---- where they stand, computed

pub equalized_at : text_at 0 ≡ equalized
unfolding text_at
equalized_at = refl

pub record TextsAt (code : ℕ) : Type 0 where
  pub name : text_at (1 + 3 * code) ≡ (chain_of code).name
  pub above : text_at (2 + 3 * code) ≡ (chain_of code).scale_above
  pub below : text_at (3 + 3 * code) ≡ (chain_of code).scale_below

pub texts_at : (code : ℕ) → code < 6 → TextsAt code
unfolding text_at chain_of
texts_at zero h = record { name = refl; above = refl; below = refl }
texts_at (suc zero) h = record { name = refl; above = refl; below = refl }
texts_at (suc (suc zero)) h = record { name = refl; above = refl; below = refl }
texts_at (suc (suc (suc zero))) h = record { name = refl; above = refl; below = refl }
texts_at (suc (suc (suc (suc zero)))) h = record { name = refl; above = refl; below = refl }
texts_at (suc (suc (suc (suc (suc zero))))) h = record { name = refl; above = refl; below = refl }
texts_at (suc (suc (suc (suc (suc (suc k)))))) h = absurd (let z : ⊥ = omega arith in z)

-- ---- rows of twelve bytes: one test over the whole table

pub text_small : (place : ℕ) → place < 19 → length (text_at place) ≤ 12
unfolding text_at
text_small place h = leb-true _ 12 (all_at (λ (t : List ℕ). leb (length t) 12) texts place [] refl h)

module _ (place : ℕ) (h : place < 19) (row : TextRow) (is : row ≡ text_row_of (text_at place)) where
  pub row_count : row.length ≡ length (text_at place)
  unfolding text_row_of
  row_count = ap (λ (r : TextRow). r.length) is

  pub row_small : row.length ≤ 12
  row_small = omega (arith, row_count, text_small place h)

  pub row_size : length row.text ≡ 12
  unfolding text_row_of
  row_size = rw is (length-take-le 12 (text_at place ++ replicate 12 0) (omega (arith, length-append (text_at place) (replicate 12 0), length-replicate {A = ℕ} 12 0)))

  pub row_text : take row.length row.text ≡ text_at place
  unfolding text_row_of
  row_text = rw is (take-take (length (text_at place)) 12 (text_at place ++ replicate 12 0) (text_small place h) ∙ take-append_seam (text_at place) (replicate 12 0))
