-- The distance, and after how many places the chain comes round.
use native.Mathlib.Omega.{arith}
use Rattle.text.proofs.Writing.{then}
use Rattle.layout_explaining.specs.Sentences.{verdict_text}
use Rattle.layout_explaining.proofs.sentences.put_two_keys.Goals as goal

pub put_apart-places-requires : goal.put_apart-places-requires
put_apart-places-requires c =
    omega (arith, c.requires)

pub put_numbered-round-requires : goal.put_numbered-round-requires
put_numbered-round-requires c =
    omega (arith, c.requires, c.put_apart-places.ensures.1)

pub put_text-requires : goal.put_text-requires
put_text-requires c =
    omega (arith, c.requires, c.put_apart-places.ensures.1, c.put_numbered-round.ensures.1)

pub returns : goal.returns
unfolding verdict_text
returns c =
    ((then (then c.put_apart-places.ensures.0 c.put_numbered-round.ensures.0) c.put_text.ensures), omega (arith, c.put_apart-places.ensures.1, c.put_numbered-round.ensures.1, c.put_text.ensures.end))
