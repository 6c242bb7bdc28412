-- One byte, or none.
use mathlib.Core.Path.{ap}
use mathlib.Core.Bool.{Bool}
use native.Mathlib.Omega.{arith}
use lib.ListN.{length}
use Rattle.text.proofs.Writing.{wrote_none}
use Rattle.notes.specs.Parts.{parenthesis_text}
use Rattle.notes.proofs.texts.put_parenthesis.Goals as goal

pub put_byte-requires : goal.put_byte-requires
put_byte-requires c =
    omega (arith, c.requires, ap (λ (b : Bool). length (parenthesis_text b c.args.byte)) c.if-wanted.true)

pub returns-then-wanted : goal.returns-then-wanted
returns-then-wanted c = rw c.if-wanted.true c.put_byte.ensures

pub returns : goal.returns
returns c = rw c.if-wanted.false (wrote_none _ _)
