-- A layout's book: the count, then all entries; and from the book to what the calls answer, one law for each way in which a call ends.
use Prim.Native.Nat.{ℕ, ◌+◌}
use mathlib.Core.Path.{◌≡◌, sym, ap, ◌∙◌}
use mathlib.Core.List.{List, ◌++◌, append_assoc}
use native.Mathlib.Omega.{arith}
use lib.ListN.{length, length-append}
use Rattle.answer.specs.Outcome.{Outcome, given, refused, and_then}
use Rattle.answer.specs.Lent.{held_in, in_room, counted}
use Rattle.text.specs.Writing.{joined}
use Rattle.text.specs.LittleEndian.{le32}
use Rattle.text.proofs.FourBytes.{length_le32}
use Rattle.book.specs.Books.{pair_text}
use Rattle.book.proofs.Written.{book_is}
use Rattle.layout.specs.declared.IsomorphicLayout.{IsomorphicLayout}
use Rattle.layout.specs.Layouts.{Layout, layout_outcome}
use Rattle.layout.specs.Names.{listed_name}
use Rattle.layout.proofs.Calls.{of_refused, of_given}
use Rattle.layout_book.specs.LayoutBooks.{book_in, get_book}
use Rattle.layout_book.specs.Parts.{entries_in}

module _ (l : Layout) where
  pub book_whole : le32 l.octave ++ entries_in l ≡ book_in l
  unfolding book_in
  book_whole =
      let name = listed_name l in
      sym (append_assoc (le32 l.octave) (joined (pair_text name l.octave) l.octave) (joined name l.octave))
      ∙ sym (book_is name l.octave)

  pub length_whole : length (book_in l) ≡ 4 + length (entries_in l)
  length_whole = sym (ap length book_whole) ∙ length-append (le32 l.octave) (entries_in l) ∙ omega (arith, length_le32 l.octave)

pub book_refused : (r : IsomorphicLayout) (n : ℕ) → refused n ≡ layout_outcome r → refused n ≡ get_book r
unfolding get_book
book_refused r n e = of_refused r _ n e

module _ (r : IsomorphicLayout) (l : Layout) (e : given l ≡ layout_outcome r) where
  book_given : given (book_in l) ≡ get_book r
  unfolding get_book
  book_given = of_given r _ l e

  pub book_count : (n : ℕ) → n ≡ length (book_in l) → given n ≡ counted (get_book r)
  book_count n q = ap given q ∙ ap counted book_given

  pub book_in_room : (room : ℕ) → held_in room (book_in l) ≡ in_room room (get_book r)
  book_in_room room = ap (λ (o : Outcome (List ℕ)). and_then o (held_in room)) book_given
