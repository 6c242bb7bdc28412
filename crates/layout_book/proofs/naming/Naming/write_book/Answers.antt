-- Question 10, then the book at the front.
use mathlib.Core.Path.{ap}
use native.Mathlib.Omega.{arith}
use lib.ListN.{length}
use Rattle.answer.specs.Outcome.{given}
use Rattle.answer.proofs.Lent.{held}
use Rattle.text.proofs.Writing.{filled_given}
use Rattle.layout.specs.Parts.{layout_in}
use Rattle.layout_book.specs.LayoutBooks.{book_in}
use Rattle.layout_book.proofs.naming.Naming.write_book.Goals as goal

pub returns : goal.returns
returns c =
    filled_given (held (length c.args.out.now) (book_in (layout_in c.args.self.prepared)) (omega (arith, c.book_length-bytes.ensures)))
    (ap given c.book_length-bytes.ensures) (omega (arith, c.book_length-bytes.ensures)) c.put_book.ensures
