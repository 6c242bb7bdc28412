-- Questions 1 to 4 and 18, then the length of the layout's book.
use Rattle.answer.proofs.Passing.{passed_on}
use mathlib.Core.Path.{sym, ap, ◌∙◌}
use Rattle.layout.specs.Parts.{found_outcome}
use Rattle.layout.proofs.Calls.{row_found, ready_given}
use Rattle.answer.specs.Lent.{counted}
use Rattle.layout_book.proofs.BookCalls.{book_refused, book_count}
use Rattle.layout_book.proofs.book_len.Goals as goal

pub invariant_of-book_length : goal.invariant_of-book_length
invariant_of-book_length c =
    let e = sym (ap found_outcome c.in_ok-found.was) ∙ c.ask_with_row.ensures in
    let made = c.prepare-prepared in
    record { own_row = row_found _ _ (ready_given _ _ e made.result made.ensures.1) _ c.row-row.ensures }

pub returns-in_err-found : goal.returns-in_err-found
returns-in_err-found c =
    rw (passed_on _ _ c.from_residual.ensures)
    (ap counted (book_refused _ _ (sym (ap found_outcome c.in_err-found.was) ∙ c.ask_with_row.ensures)))

pub returns : goal.returns
returns c =
    let e = sym (ap found_outcome c.in_ok-found.was) ∙ c.ask_with_row.ensures in
    book_count _ _ (ready_given _ _ e c.prepare-prepared.result c.prepare-prepared.ensures.1) _ c.book_length.ensures
