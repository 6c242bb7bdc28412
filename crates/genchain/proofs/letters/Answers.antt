-- Questions 1 and 10, then the row's letters at the front.
use mathlib.Core.Path.{ap, ◌∙◌}
use Prim.Native.Nat.{ℕ}
use native.Mathlib.Nat.{zero-add}
use native.Mathlib.Omega.{arith}
use Rattle.answer.specs.Outcome.{given}
use Rattle.text.proofs.Writing.{wrote_as, filled_given}
use Rattle.answer.proofs.Lent.{filled_refused}
use Rattle.answer.proofs.Passing.{refusal_asked}
use Rattle.genchain.proofs.TableRows.{table_row, row_count, row_letters, length_letters_in}
use Rattle.genchain.proofs.Calls.{letters_no_chain, letters_not_held, letters_held}
use Rattle.genchain.proofs.letters.Goals as goal

pub returns-in_err-row : goal.returns-in_err-row
returns-in_err-row c =
    filled_refused 1 _ (letters_no_chain _ c.in_err-row.ensures.1 _)
    (refusal_asked _ _ _ c.from_residual.ensures c.in_err-row.ensures.0)

pub returns-in_err-asked_room : goal.returns-in_err-asked_room
returns-in_err-asked_room c =
    let below = c.in_ok-row.ensures.0 in
    let t = table_row _ _ below c.in_ok-row.ensures.1 in
    filled_refused 10 _ (letters_not_held _ below _ (omega (arith, row_count _ t, c.in_err-asked_room.ensures.1)))
    (refusal_asked _ _ _ c.from_residual-in_err-asked_room.ensures c.in_err-asked_room.ensures.0)

pub put_letters-requires : goal.put_letters-requires
put_letters-requires c =
    let below = c.in_ok-row.ensures.0 in
    let t = table_row _ _ below c.in_ok-row.ensures.1 in
    (t, omega (arith, length_letters_in _ t, c.in_ok-asked_room.ensures))

pub returns : goal.returns
returns c =
    let below = c.in_ok-row.ensures.0 in
    let t = table_row _ _ below c.in_ok-row.ensures.1 in
    filled_given
    (letters_held _ below _ (omega (arith, row_count _ t, c.in_ok-asked_room.ensures)))
    (ap (λ (n : ℕ). given n) (c.put_letters.ensures.end ∙ zero-add _ ∙ length_letters_in _ t ∙ row_count _ t))
    (omega (arith, row_count _ t, c.in_ok-asked_room.ensures))
    (wrote_as (row_letters _ t) c.put_letters.ensures)
