-- The digits of a tenth of the number, then the last one.
use Prim.Native.Nat.{ℕ, ◌/◌, ◌≤◌, ◌<◌}
use mathlib.Core.Path.{subst}
use native.Mathlib.Omega.{arith}
use Rattle.text.proofs.Digits.{length_more, room_last, wrote_digits}
use Rattle.layout_explaining.proofs.sentences.+put_long.Goals as goal

pub put_number-requires : goal.put_number-requires
put_number-requires t c = c.requires

pub returns-then-n-lt65536 : goal.returns-then-n-lt65536
returns-then-n-lt65536 t c = c.put_number.ensures

pub put_long-next-requires : goal.put_long-next-requires
put_long-next-requires t c =
    let large : 65536 ≤ c.args.n = c.if-n-lt65536.false in (
      subst (λ (j : ℕ). c.args.n / 10 < j) c.decreases (omega (arith, large)),
      omega (arith, length_more c.args.n (omega (arith, large)), c.requires),
    )

pub put_byte-requires : goal.put_byte-requires
put_byte-requires t c = room_last (omega (arith, c.if-n-lt65536.false)) c.put_long-next.ensures c.requires

pub returns : goal.returns
returns t c = wrote_digits (omega (arith, c.if-n-lt65536.false)) c.put_long-next.ensures c.put_byte.ensures
