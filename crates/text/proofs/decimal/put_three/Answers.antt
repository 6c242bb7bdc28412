-- The digits of a tenth of the number; the last digit follows.
use native.Mathlib.Omega.{arith}
use Rattle.text.proofs.Digits.{length_more, room_last, wrote_digits}
use Rattle.text.proofs.decimal.put_three.Goals as goal

pub put_short-next-requires : goal.put_short-next-requires
put_short-next-requires c = (
  omega (arith, c.requires.1),
  omega (arith, length_more c.args.n (omega (arith, c.requires.0)), c.requires.2),
)

pub put_byte-requires : goal.put_byte-requires
put_byte-requires c =
    room_last (omega (arith, c.requires.0)) c.put_short-next.ensures c.requires.2

pub returns : goal.returns
returns c =
    wrote_digits (omega (arith, c.requires.0)) c.put_short-next.ensures c.put_byte.ensures
