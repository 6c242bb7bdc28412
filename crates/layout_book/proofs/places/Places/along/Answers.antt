-- A chain has 5 to 9 letters, and as many degrees at least.
use mathlib.Core.Path.{refl}
use native.Mathlib.Omega.{arith}
use Rattle.layout_book.proofs.ReadyNumbers.{Numbers, made_numbers}
use Rattle.layout_book.proofs.places.Places.along.Goals as goal

pub nonzero_div-result : goal.nonzero_div-result
nonzero_div-result c = omega (arith, (made_numbers c.args.naming.prepared (omega arith)).five)

pub invariant_of-result : goal.invariant_of-result
invariant_of-result c =
    let h : Numbers c.args.naming.prepared = made_numbers c.args.naming.prepared (omega arith) in
    record { by_letters = record { some = omega (arith, h.five); few = h.nine; is = refl }; enough = h.enough }
