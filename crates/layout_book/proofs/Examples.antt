-- The worked examples hold by computation.
use mathlib.Core.Path.{refl}
use Rattle.layout_book.specs.LayoutBooks.{get_book}
use Rattle.layout_book.specs.Examples.{ExamplesHold}

pub examples_hold : ExamplesHold
unfolding get_book
examples_hold = refl
