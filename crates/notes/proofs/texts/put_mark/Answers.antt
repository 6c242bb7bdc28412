-- The letter, then its signs; one sign is a run of one.
use Prim.Native.Nat.{ℕ}
use mathlib.Core.Path.{sym, ap}
use mathlib.Core.List.{◌++◌}
use native.Mathlib.Omega.{arith}
use lib.ListN.{replicate, length-replicate}
use Rattle.text.proofs.Writing.{then, wrote_as}
use Rattle.notes.specs.Names.{letter_text}
use Rattle.notes.specs.Parts.{mark_text}
use Rattle.notes.proofs.Lengths.{length_mark}
use Rattle.notes.proofs.texts.put_mark.Goals as goal

pub put_letter-next-requires : goal.put_letter-next-requires
put_letter-next-requires c = omega (arith, length_mark c.args.mark)

pub put_byte-requires : goal.put_byte-requires
put_byte-requires c =
    let m = c.args.mark in omega (arith, length_mark m, c.if-mark-eq1.true)

pub returns-then-mark-eq1 : goal.returns-then-mark-eq1
unfolding mark_text
returns-then-mark-eq1 c =
    let m = c.args.mark in
    wrote_as (ap (λ (n : ℕ). letter_text m.letter ++ replicate n m.sign) (sym c.if-mark-eq1.true))
    (then c.put_letter-next.ensures c.put_byte.ensures)

pub put_run-requires : goal.put_run-requires
put_run-requires c =
    let m = c.args.mark in
    omega (arith, length_mark m, length-replicate m.count m.sign)

pub returns : goal.returns
unfolding mark_text
returns c =
    then c.put_letter-next.ensures c.put_run.ensures
