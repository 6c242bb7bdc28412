-- Which of the two texts is printed.
use mathlib.Core.Path.{ap}
use native.Mathlib.Omega.{arith}
use lib.ListN.{length}
use Rattle.notes.proofs.Lengths.{body_bracketed, body_one}
use Rattle.notes.proofs.texts.put_body.Goals as goal

pub put_bracketed-requires : goal.put_bracketed-requires
put_bracketed-requires c =
    (c.requires.0, omega (arith, ap length (body_bracketed c.args.plan c.if-both.true)))

pub returns-then-both : goal.returns-then-both
returns-then-both c =
    rw (body_bracketed c.args.plan c.if-both.true) c.put_bracketed.ensures

pub put_mark-requires : goal.put_mark-requires
put_mark-requires c =
    (c.requires.0.first, omega (arith, ap length (body_one c.args.plan c.if-both.false)))

pub returns : goal.returns
returns c =
    rw (body_one c.args.plan c.if-both.false) c.put_mark.ensures
