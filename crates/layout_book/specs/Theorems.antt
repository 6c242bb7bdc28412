-- What holds of the book of every accepted layout. Proofs: proofs/.
use Rattle.std.specs.Prelude.{ℕ, ◌+◌, ◌*◌, ◌≤◌, ◌<◌, length}
use Rattle.text.specs.Writing.{joined}
use Rattle.book.specs.Theorems.{ReadBack}
use Rattle.layout.specs.declared.IsomorphicLayout.{IsomorphicLayout}
use Rattle.layout.specs.Layouts.{Layout, Accepted}
use Rattle.layout.specs.Names.{listed_name}
use Rattle.layout_book.specs.LayoutBooks.{book_in}

-- "an offset and a length (4 bytes each ..)": the book is shorter than 2³², and every pair's end, offset plus length, lies in it.
pub record Fits (l : Layout) : Type 0 where
  pub whole : length (book_in l) < 4294967296
  pub ends : (key : ℕ) → key < l.octave
      → 4 + 8 * l.octave + length (joined (listed_name l) key) + length (listed_name l key) ≤ length (book_in l)

-- Theorem: for every accepted layout of a 16-bit octave, each offset and each length fits 32 bits.
abbrev pub OffsetsFit : Type 0
OffsetsFit =
    (r : IsomorphicLayout) (l : Layout) → Accepted r l → l.octave ≤ 65535 → Fits l

-- Theorem: what is written is accepted (questions 11 and 12) with P keys, and looking a key up gives exactly that key's name.
abbrev pub WrittenBookIsRead : Type 0
WrittenBookIsRead =
    (r : IsomorphicLayout) (l : Layout) → Accepted r l → l.octave ≤ 65535 → ReadBack (listed_name l) l.octave (book_in l)
