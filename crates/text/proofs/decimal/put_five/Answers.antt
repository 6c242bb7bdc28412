-- The digits of a tenth of the number; the last digit follows.
use native.Mathlib.Omega.{arith}
use Rattle.text.proofs.Digits.{length_more, room_last, wrote_digits}
use Rattle.text.proofs.decimal.put_five.Goals as goal

pub put_four-next-requires : goal.put_four-next-requires
put_four-next-requires c = (
  omega (arith, c.requires.0),
  omega (arith, c.ranges.n),
  omega (arith, length_more c.args.n (omega (arith, c.requires.0)), c.requires.1),
)

pub put_byte-requires : goal.put_byte-requires
put_byte-requires c =
    room_last (omega (arith, c.requires.0)) c.put_four-next.ensures c.requires.1

pub returns : goal.returns
returns c =
    wrote_digits (omega (arith, c.requires.0)) c.put_four-next.ensures c.put_byte.ensures
