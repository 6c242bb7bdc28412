-- One word or the other.
use mathlib.Core.Path.{sym, ap}
use native.Mathlib.Omega.{arith}
use Rattle.text.proofs.Writing.{wrote_as}
use Rattle.layout_explaining.specs.Sentences.{way_text}
use Rattle.layout_explaining.proofs.sentences.put_way.Goals as goal

pub returns-then-up : goal.returns-then-up
returns-then-up c =
    (wrote_as (ap way_text (sym c.if-up.true)) c.put_text.ensures, omega (arith, c.put_text.ensures.end))

pub returns : goal.returns
returns c =
    (wrote_as (ap way_text (sym c.if-up.false)) c.put_text-2.ensures, omega (arith, c.put_text-2.ensures.end))
