-- The bytes of each form, one after the other.
use mathlib.Core.Path.{ap}
use native.Mathlib.Omega.{arith}
use lib.ListN.{length}
use Rattle.text.proofs.Writing.{then}
use Rattle.notes.proofs.Utf8.{letter_one, letter_two}
use Rattle.notes.proofs.texts.put_letter.Goals as goal

pub put_byte-requires : goal.put_byte-requires
put_byte-requires c = omega (arith, ap length (letter_one _ c.if-letter-lt128.true))

pub returns-then-letter-lt128 : goal.returns-then-letter-lt128
returns-then-letter-lt128 c = rw (letter_one _ c.if-letter-lt128.true) c.put_byte.ensures

pub put_byte-next-requires : goal.put_byte-next-requires
put_byte-next-requires c = omega (arith, ap length (letter_two _ c.if-letter-lt128.false))

pub put_byte-requires-2 : goal.put_byte-requires-2
put_byte-requires-2 c = omega (arith, ap length (letter_two _ c.if-letter-lt128.false))

pub returns : goal.returns
returns c =
    rw (letter_two _ c.if-letter-lt128.false)
    (then c.put_byte-next.ensures c.put_byte-2.ensures)
