-- A letter alone, or remainder and quotient of both coordinates.
use Prim.Native.Nat.{◌+◌, ◌-◌}
use native.Mathlib.Omega.{arith}
use Rattle.layout_book.proofs.SpelledPlaces.{place_alone, place_signed, rounds_below, rest_below}
use Rattle.layout_book.proofs.places.Places.spelled.Goals as goal

pub returns-then-place-self : goal.returns-then-place-self
returns-then-place-self c = place_alone _ _ _ _ c.if-place-self.true

pub overflow_mul-result : goal.overflow_mul-result
overflow_mul-result c = omega (arith, rounds_below _ _ c.quotient-sharps.ensures)

pub overflow_sub-result : goal.overflow_sub-result
overflow_sub-result c = rounds_below _ _ c.quotient-sharps.ensures

pub overflow_mul-result-2 : goal.overflow_mul-result-2
overflow_mul-result-2 c =
    let s = c.args.self in
    omega (arith, rounds_below s.letters (s.degrees - c.args.place + (s.letters - 1)) c.quotient-flats.ensures, c.if-place-self.false)

pub overflow_sub-result-2 : goal.overflow_sub-result-2
overflow_sub-result-2 c = rounds_below _ _ c.quotient-flats.ensures

pub overflow_sub-result-3 : goal.overflow_sub-result-3
overflow_sub-result-3 c = rest_below _ _ c.args.self.by_letters.some c.quotient-flats.ensures

pub returns : goal.returns
returns c =
    place_signed _ c.args.self.degrees _ _ c.if-place-self.false _ _ _ (omega (arith, c.requires)) c.quotient-sharps.ensures c.quotient-flats.ensures
