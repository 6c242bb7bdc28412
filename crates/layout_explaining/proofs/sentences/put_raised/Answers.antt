-- Nothing, or a number with its words.
use native.Mathlib.Omega.{arith}
use Rattle.text.proofs.Writing.{then, wrote_as, wrote_none}
use Rattle.layout_explaining.proofs.Wording.{not_raised, raised}
use Rattle.layout_explaining.proofs.sentences.put_raised.Goals as goal

pub returns-then-stars-eq0 : goal.returns-then-stars-eq0
returns-then-stars-eq0 c = (wrote_as (not_raised _ c.if-stars-eq0.true) (wrote_none _ _), omega arith)

pub put_numbered-count-requires : goal.put_numbered-count-requires
put_numbered-count-requires c = omega (arith, c.requires)

pub put_text-requires : goal.put_text-requires
put_text-requires c =
    omega (arith, c.requires, c.put_numbered-count.ensures.1)

pub returns : goal.returns
returns c = (
  wrote_as (raised _ c.if-stars-eq0.false) (then c.put_numbered-count.ensures.0 c.put_text.ensures),
  omega (arith, c.put_numbered-count.ensures.1, c.put_text.ensures.end),
)
