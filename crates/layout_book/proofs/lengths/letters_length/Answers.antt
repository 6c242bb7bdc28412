use Prim.Native.Nat.{ℕ, ◌<◌}
use mathlib.Core.Path.{◌≡◌, ap, ◌∙◌}
use native.Mathlib.Omega.{arith}
use lib.ListN.{length, take}
use lib.Seq.{get_or-take, length-take-le}
use Rattle.text.specs.Writing.{joined}
use Rattle.genchain.specs.Chains.{letters_in, TableRow}
use Rattle.genchain.specs.declared.rows.ChainRow.{ChainRow}
use Rattle.genchain.proofs.TableRows.{row_count_small, row_length}
use Rattle.layout_book.specs.Parts.{letter_in}
use Rattle.layout_book.proofs.LettersRead.{letters_none, letters_more}
use Rattle.layout_book.proofs.lengths.letters_length.Goals as goal

-- the letters that are read are as many as the row has
read_count : (row : ChainRow) → TableRow row → length (take row.num_letters row.letters) ≡ row.num_letters
read_count row t = length-take-le row.num_letters row.letters (omega (arith, row_count_small row t, row_length row t))

pub shared_ref_as_front-letter-items : goal.shared_ref_as_front-letter-items
shared_ref_as_front-letter-items c = row_count_small _ c.requires

pub loop-letter-init : goal.loop-letter-init
loop-letter-init c = letters_none _

pub overflow_add-total : goal.overflow_add-total
overflow_add-total c =
    omega (arith, row_count_small _ c.requires, read_count _ c.requires, c.loop-letter-test.true, c.loop-letter.invariant.small, c.letter_length-total.ensures.1)

pub loop-letter-preserved : goal.loop-letter-preserved
loop-letter-preserved c =
    let row = c.args.row in
    let below : c.loop-letter.letter-index < row.num_letters = omega (arith, read_count _ c.requires, c.loop-letter-test.true) in
    let read = rw (get_or-take row.num_letters row.letters c.loop-letter.letter-index 0 below) at c.letter_length-total.ensures in
    letters_more _ c.requires _ _ _ below read c.loop-letter.invariant

pub returns : goal.returns
returns c =
    let row = c.args.row in
    let w = c.loop-letter.invariant in
    let all : c.loop-letter.letter-index ≡ row.num_letters
    = omega (arith, read_count _ c.requires, c.loop-letter.auto.letter-index-end, c.loop-letter-test.false) in
    (w.is ∙ ap (λ (k : ℕ). length (joined (letter_in (letters_in row)) k)) all, omega (arith, w.small, all, row_count_small row c.requires))
