-- The count, the pairs and the text.
use native.Mathlib.Omega.{arith}
use Rattle.book.proofs.Written.{length_book}
use Rattle.layout.specs.Names.{listed_name}
use Rattle.layout.specs.Parts.{layout_in}
use Rattle.layout_book.specs.LayoutBooks.{book_in}
use Rattle.layout_book.proofs.naming.Naming.book_length.Goals as goal

pub returns : goal.returns
unfolding book_in
returns c =
    let p = c.args.self.prepared in
    omega (arith, c.names_length.ensures.length_is, length_book (listed_name (layout_in p)) p.found.octave)
