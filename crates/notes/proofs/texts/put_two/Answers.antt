-- The first spelling, the slash, and the second.
use native.Mathlib.Omega.{arith}
use Rattle.text.proofs.Writing.{then}
use Rattle.notes.specs.Parts.{two_text}
use Rattle.notes.proofs.Lengths.{length_two}
use Rattle.notes.proofs.texts.put_two.Goals as goal

pub put_mark-next-requires : goal.put_mark-next-requires
put_mark-next-requires c = (c.requires.0.first, omega (arith, length_two c.args.plan))

pub put_byte-after-requires : goal.put_byte-after-requires
put_byte-after-requires c = omega (arith, length_two c.args.plan)

pub put_mark-requires : goal.put_mark-requires
put_mark-requires c =
    (c.requires.0.second, omega (arith, length_two c.args.plan))

pub returns : goal.returns
unfolding two_text
returns c =
    then
    (then
    c.put_mark-next.ensures
    c.put_byte-after.ensures)
    c.put_mark.ensures
