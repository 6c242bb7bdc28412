-- One place, or the distance and how often the chain comes round.
use native.Mathlib.Omega.{arith}
use Rattle.text.proofs.Writing.{then, wrote_as}
use Rattle.layout_explaining.proofs.Wording.{one_place, round_apart}
use Rattle.layout_explaining.proofs.sentences.put_one_key.Goals as goal

pub returns-then-distance-eq0 : goal.returns-then-distance-eq0
returns-then-distance-eq0 c = (
  wrote_as (one_place _ _ c.if-distance-eq0.true) c.put_text.ensures,
  omega (arith, c.put_text.ensures.end),
)

pub put_apart-places-requires : goal.put_apart-places-requires
put_apart-places-requires c = omega (arith, c.requires)

pub put_round-round-requires : goal.put_round-round-requires
put_round-round-requires c =
    omega (arith, c.requires, c.put_apart-places.ensures.1)

pub put_text-requires-2 : goal.put_text-requires-2
put_text-requires-2 c =
    omega (arith, c.requires, c.put_apart-places.ensures.1, c.put_round-round.ensures.1)

pub returns : goal.returns
returns c = (
  wrote_as (round_apart _ _ c.if-distance-eq0.false)
      (then (then c.put_apart-places.ensures.0 c.put_round-round.ensures.0) c.put_text-2.ensures),
  omega (arith, c.put_apart-places.ensures.1, c.put_round-round.ensures.1, c.put_text-2.ensures.end),
)
