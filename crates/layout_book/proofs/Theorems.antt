-- The theorems on the books of all layouts: what bounds a layout's names bounds its book.
use Prim.Native.Nat.{ℕ, ◌+◌, ◌*◌, ◌≤◌}
use native.Mathlib.Omega.{arith}
use mathlib.Core.Path.{◌≡◌}
use mathlib.Core.List.{List}
use lib.IntN.{pos}
use lib.ListN.{length}
use Rattle.text.specs.Writing.{joined}
use Rattle.text.proofs.Joined.{length_joined_more, length_joined_le}
use Rattle.book.specs.Theorems.{Writable}
use Rattle.book.proofs.Written.{length_book, books_read_back}
use Rattle.layout.specs.declared.IsomorphicLayout.{IsomorphicLayout}
use Rattle.layout.specs.Layouts.{Layout, Accepted}
use Rattle.layout.specs.Names.{listed_name}
use Rattle.layout.proofs.Finding.{accepted}
use Rattle.layout_book.specs.LayoutBooks.{book_in}
use Rattle.layout_book.specs.Theorems.{OffsetsFit, WrittenBookIsRead}
use Rattle.layout_book.proofs.Rounds.{short_texts}
use Rattle.layout_book.proofs.NameBounds.{name_short, name_some}

module _ (r : IsomorphicLayout) (l : Layout) (e : Accepted r l) (small : l.octave ≤ 65535) where
  abbrev name : ℕ → List ℕ
  name = listed_name l

  writable : Writable name l.octave
  writable =
      record {
        some = (accepted r l e).positive;
        not_empty = λ k h. name_some l (pos k);
        short = omega (arith, short_texts 39325 name l.octave (λ k h. name_short l (accepted r l e) small (pos k)));
      }

  book_length_is : length (book_in l) ≡ 4 + 8 * l.octave + length (joined name l.octave)
  unfolding book_in
  book_length_is = length_book name l.octave

pub offsets_fit : OffsetsFit
offsets_fit r l e small =
    record {
      whole = omega (arith, book_length_is r l e small, (writable r l e small).short);
      ends = λ k h. omega (
        arith,
        book_length_is r l e small,
        length_joined_more (listed_name l) k,
        length_joined_le (listed_name l) (k + 1) l.octave (omega arith),
      );
    }

pub written_book_is_read : WrittenBookIsRead
unfolding book_in
written_book_is_read r l e small =
    books_read_back (listed_name l) l.octave (writable r l e small)
