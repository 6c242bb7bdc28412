-- Questions 1 to 4 and 18, then 10, then the layout's book.
use Rattle.answer.proofs.Passing.{passed_on}
use mathlib.Core.Path.{refl, sym, ap, ◌∙◌}
use Rattle.layout.specs.Parts.{found_outcome}
use Rattle.layout.proofs.Calls.{row_found, ready_given, filled_as, refused_in_room}
use Rattle.answer.proofs.Lent.{filled_refused}
use Rattle.layout_book.proofs.BookCalls.{book_refused, book_in_room}
use Rattle.layout_book.proofs.write_book.Goals as goal

pub invariant_of-write_book : goal.invariant_of-write_book
invariant_of-write_book c =
    let e = sym (ap found_outcome c.in_ok-found.was) ∙ c.ask_with_row.ensures in
    let made = c.prepare-prepared in
    record { own_row = row_found _ _ (ready_given _ _ e made.result made.ensures.1) _ c.row-row.ensures }

pub returns-in_err-found : goal.returns-in_err-found
returns-in_err-found c =
    rw (passed_on _ _ c.from_residual.ensures)
    (filled_refused _ _ (refused_in_room _ _ _ (book_refused _ _ (sym (ap found_outcome c.in_err-found.was) ∙ c.ask_with_row.ensures))) refl)

pub returns : goal.returns
returns c =
    let e = sym (ap found_outcome c.in_ok-found.was) ∙ c.ask_with_row.ensures in
    filled_as (book_in_room _ _ (ready_given _ _ e c.prepare-prepared.result c.prepare-prepared.ensures.1) _) c.write_book.ensures
