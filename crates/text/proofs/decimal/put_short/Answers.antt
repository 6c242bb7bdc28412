-- The first digit, then the last, which of a single digit is the same one at the same place.
use mathlib.Core.Path.{refl}
use native.Mathlib.Omega.{arith}
use Rattle.text.proofs.Digits.{first_small, far_inside, room_short, wrote_short}
use Rattle.text.proofs.decimal.put_short.Goals as goal

pub overflow_add-last : goal.overflow_add-last
overflow_add-last c =
    omega (arith, far_inside _ _ c.requires.0 c.last_place.ensures, c.requires.1)

pub overflow_cast-first_digit : goal.overflow_cast-first_digit
overflow_cast-first_digit c = omega (arith, first_small _ _ c.requires.0 c.first_digit.ensures)

pub overflow_add-first_digit : goal.overflow_add-first_digit
overflow_add-first_digit c = omega (arith, first_small _ _ c.requires.0 c.first_digit.ensures)

pub put_byte-requires : goal.put_byte-requires
put_byte-requires c =
    omega (arith, far_inside _ _ c.requires.0 c.last_place.ensures, c.requires.1)

pub put_byte-requires-2 : goal.put_byte-requires-2
put_byte-requires-2 c =
    room_short _ _ _ c.requires.0 c.first_digit.ensures c.last_place.ensures refl
    c.put_byte.ensures c.requires.1

pub returns : goal.returns
returns c =
    wrote_short _ _ _ c.requires.0 c.first_digit.ensures c.last_place.ensures refl
    c.put_byte.ensures c.put_byte-2.ensures
