-- The count, then the pairs and the names.
use native.Mathlib.Omega.{arith}
use Rattle.text.specs.LittleEndian.{le32}
use Rattle.text.proofs.Writing.{then, wrote_as, wrote_length}
use Rattle.text.proofs.FourBytes.{length_le32}
use Rattle.layout.specs.Parts.{layout_in}
use Rattle.layout_book.proofs.BookCalls.{book_whole, length_whole}
use Rattle.layout_book.proofs.naming.Naming.put_book.Goals as goal

pub put_u32-requires : goal.put_u32-requires
put_u32-requires c =
    simp length_le32 (omega (arith, c.requires, length_whole (layout_in c.args.self.prepared)))

pub put_entries-requires : goal.put_entries-requires
put_entries-requires c =
    omega (arith, c.requires, length_whole (layout_in c.args.self.prepared), wrote_length c.put_u32.ensures)

pub returns : goal.returns
returns c =
    let l = layout_in c.args.self.prepared in
    wrote_as (book_whole l)
    (then {t = le32 l.octave} (record { content = c.put_u32.ensures.content; end = omega (arith, length_le32 l.octave) }) c.put_entries.ensures)
