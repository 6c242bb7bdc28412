-- Nothing, or a number with its words.
use native.Mathlib.Omega.{arith}
use Rattle.text.proofs.Writing.{then, wrote_as, wrote_none}
use Rattle.layout_explaining.proofs.Wording.{no_stars, some_stars}
use Rattle.layout_explaining.proofs.sentences.put_stars.Goals as goal

pub returns-then-stars-eq0 : goal.returns-then-stars-eq0
returns-then-stars-eq0 c = (wrote_as (no_stars _ c.if-stars-eq0.true) (wrote_none _ _), omega arith)

pub put_numbered-count-requires : goal.put_numbered-count-requires
put_numbered-count-requires c = omega (arith, c.requires)

pub put_text-star-requires : goal.put_text-star-requires
put_text-star-requires c =
    omega (arith, c.requires, c.put_numbered-count.ensures.1)

pub put_plural-requires : goal.put_plural-requires
put_plural-requires c =
    omega (arith, c.requires, c.put_numbered-count.ensures.1, c.put_text-star.ensures.end)

pub returns : goal.returns
returns c = (
  wrote_as (some_stars _ c.if-stars-eq0.false)
      (then (then c.put_numbered-count.ensures.0 c.put_text-star.ensures) c.put_plural.ensures.0),
  omega (arith, c.put_numbered-count.ensures.1, c.put_text-star.ensures.end, c.put_plural.ensures.1),
)
