-- Once round, or more often.
use native.Mathlib.Omega.{arith}
use Rattle.text.proofs.Writing.{wrote_as}
use Rattle.layout_explaining.proofs.Wording.{round_often, round_once}
use Rattle.layout_explaining.proofs.sentences.put_round.Goals as goal

pub returns-then-distance : goal.returns-then-distance
returns-then-distance c =
    (wrote_as (round_often _ _ c.if-distance.true) c.put_times.ensures.0, c.put_times.ensures.1)

pub returns : goal.returns
returns c = (
  wrote_as (round_once _ _ c.if-distance.false) c.put_numbered.ensures.0,
  omega (arith, c.put_numbered.ensures.1),
)
