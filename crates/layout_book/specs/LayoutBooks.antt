-- The book of a layout's key names (document 01, "Lamps and book"), and what the calls answer.
use Rattle.std.specs.Prelude.{ℕ, List}
use Rattle.answer.specs.Outcome.{Outcome, given}
use Rattle.book.specs.Books.{book_text}
use Rattle.layout.specs.declared.IsomorphicLayout.{IsomorphicLayout}
use Rattle.layout.specs.Layouts.{Layout, layout_outcome}
use Rattle.layout.specs.Names.{name_in, listed_name}
use Rattle.layout.specs.Answers.{of_layout}

-- "Writing a layout's book has count P": the names of the keys 0 to octave − 1.
unfoldable pub book_in : Layout → List ℕ
unfolding book_text name_in
book_in l = book_text (listed_name l) l.octave

-- Questions 1 to 4 and 18, then the book: what `write_book` writes, where there is room for it (10).
unfoldable pub get_book : IsomorphicLayout → Outcome (List ℕ)
unfolding layout_outcome book_in
get_book r = of_layout r (λ (l : Layout). given (book_in l))
