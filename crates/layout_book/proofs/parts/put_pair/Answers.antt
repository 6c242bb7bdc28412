-- Two numbers, one after the other.
use native.Mathlib.Omega.{arith}
use Rattle.text.proofs.Writing.{then}
use Rattle.text.proofs.FourBytes.{length_le32}
use Rattle.layout_book.specs.Parts.{numbers_text}
use Rattle.layout_book.proofs.Due.{length_numbers}
use Rattle.layout_book.proofs.parts.put_pair.Goals as goal

pub put_u32-next-requires : goal.put_u32-next-requires
put_u32-next-requires c = omega (arith, length_numbers c.args.offset c.args.bytes, length_le32 c.args.offset)

pub put_u32-requires : goal.put_u32-requires
put_u32-requires c =
    simp length_le32 (omega (arith, length_numbers c.args.offset c.args.bytes, length_le32 c.args.offset))

pub returns : goal.returns
unfolding numbers_text
returns c = then c.put_u32-next.ensures c.put_u32.ensures
