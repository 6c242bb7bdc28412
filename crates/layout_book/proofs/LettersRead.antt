-- A row of the table: that of a layout's chain, and the length of its letters, read one after the other.
use Prim.Native.Nat.{ℕ, ◌+◌, ◌*◌, ◌≤◌, ◌<◌}
use mathlib.Core.Path.{◌≡◌, sym, ap, ap₂, ◌∙◌, subst}
use mathlib.Core.List.{List}
use native.Mathlib.Omega.{arith}
use lib.ListN.{length, get_or}
use Rattle.text.specs.Writing.{joined}
use Rattle.text.proofs.Joined.{joined_none, length_joined_more}
use Rattle.genchain.specs.Chains.{chain_of, row_of, TableRow, letters_in}
use Rattle.genchain.specs.declared.rows.ChainRow.{ChainRow}
use Rattle.genchain.proofs.TableRows.{table_row, row_letters, row_count}
use Rattle.layout.specs.declared.prepared.Prepared.{Prepared}
use Rattle.layout.specs.Layouts.{sharp_first}
use Rattle.layout.specs.Parts.{layout_in, Ready}
use Rattle.layout.proofs.Readiness.{parts_ready}
use Rattle.notes.specs.Names.{letter_text}
use Rattle.notes.specs.Parts.{Planned}
use Rattle.notes.specs.declared.plans.NamePlan.{NamePlan}
use Rattle.notes.proofs.RowLetters.{letter_inside}
use Rattle.pergen.specs.declared.Accidentals.{Accidentals}
use Rattle.layout_book.specs.Parts.{SpelledPlanned, letter_in}

module _ (p : Prepared) (h : Ready p) (row : ChainRow) (is : row ≡ row_of (chain_of p.found.chain)) where
  abbrev pub ready_row : TableRow row
  ready_row = table_row p.found.chain row (parts_ready p h).chain is

  pub ready_letters : letters_in row ≡ (chain_of p.found.chain).letters
  ready_letters = row_letters row ready_row

  pub ready_count : row.num_letters ≡ p.found.num_letters
  ready_count = row_count row ready_row ∙ sym (parts_ready p h).letters_are

  -- the length of the row's letters is that of the chain's
  pub row_length : {n : ℕ} → n ≡ length (joined (letter_in (letters_in row)) row.num_letters)
      → n ≡ length (joined (letter_in (chain_of p.found.chain).letters) p.found.num_letters)
  row_length e = e ∙ ap₂ (λ (letters : List ℕ) (k : ℕ). length (joined (letter_in letters) k)) ready_letters ready_count

  -- a plan by the letters of the row
  pub row_planned : {a : Accidentals} {plan : NamePlan} → Planned (letters_in row) (sharp_first (layout_in p)) a plan → SpelledPlanned p a plan
  row_planned {a} {plan} = subst (λ (letters : List ℕ). Planned letters (sharp_first (layout_in p)) a plan) ready_letters

-- ---- how long they are together, one after the other

pub record LettersAdded (row : ChainRow) (index total : ℕ) : Type 0 where
  pub is : total ≡ length (joined (letter_in (letters_in row)) index)
  pub small : total ≤ 2 * index

pub letters_none : (row : ChainRow) → LettersAdded row 0 0
letters_none row = record { is = sym (ap length (joined_none (letter_in (letters_in row)))); small = omega arith }

pub letters_more : (row : ChainRow) → TableRow row → (index total m : ℕ) → index < row.num_letters
    → (m ≡ length (letter_text (get_or row.letters index 0))) × (m ≤ 2) → LettersAdded row index total → LettersAdded row (index + 1) (total + m)
unfolding letter_in
letters_more row t index total m l e w =
    record {
      is =
          ap₂ (λ (x y : ℕ). x + y) w.is (e.0 ∙ ap (λ (x : ℕ). length (letter_text x)) (letter_inside row t index l))
          ∙ sym (length_joined_more (letter_in (letters_in row)) index);
      small = omega (arith, w.small, e.1);
    }
