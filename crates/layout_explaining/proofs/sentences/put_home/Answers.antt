-- The sentence's parts, one after the other.
use native.Mathlib.Omega.{arith}
use Rattle.text.proofs.Writing.{then}
use Rattle.layout_explaining.specs.Sentences.{home_text}
use Rattle.layout_explaining.proofs.sentences.put_home.Goals as goal

pub put_text-begins-requires : goal.put_text-begins-requires
put_text-begins-requires c =
    omega (arith, c.requires)

pub put_stars-starred-requires : goal.put_stars-starred-requires
put_stars-starred-requires c =
    omega (arith, c.requires, c.put_text-begins.ensures.end)

pub put_text-colon-requires : goal.put_text-colon-requires
put_text-colon-requires c =
    omega (arith, c.requires, c.put_text-begins.ensures.end, c.put_stars-starred.ensures.1)

pub put_key-requires : goal.put_key-requires
put_key-requires c =
    omega (arith, c.requires, c.put_text-begins.ensures.end, c.put_stars-starred.ensures.1, c.put_text-colon.ensures.end)

pub returns : goal.returns
unfolding home_text
returns c =
    ((then (then (then c.put_text-begins.ensures c.put_stars-starred.ensures.0) c.put_text-colon.ensures) c.put_key.ensures.0), omega (arith, c.put_text-begins.ensures.end, c.put_stars-starred.ensures.1, c.put_text-colon.ensures.end, c.put_key.ensures.1))
