-- A number with its words.
use native.Mathlib.Omega.{arith}
use Rattle.text.proofs.Writing.{then}
use Rattle.layout_explaining.specs.Sentences.{apart_text}
use Rattle.layout_explaining.proofs.sentences.put_apart.Goals as goal

pub put_numbered-count-requires : goal.put_numbered-count-requires
put_numbered-count-requires c =
    omega (arith, c.requires)

pub put_text-place-requires : goal.put_text-place-requires
put_text-place-requires c =
    omega (arith, c.requires, c.put_numbered-count.ensures.1)

pub put_plural-places-requires : goal.put_plural-places-requires
put_plural-places-requires c =
    omega (arith, c.requires, c.put_numbered-count.ensures.1, c.put_text-place.ensures.end)

pub put_text-requires : goal.put_text-requires
put_text-requires c =
    omega (arith, c.requires, c.put_numbered-count.ensures.1, c.put_text-place.ensures.end, c.put_plural-places.ensures.1)

pub returns : goal.returns
unfolding apart_text
returns c =
    ((then (then (then c.put_numbered-count.ensures.0 c.put_text-place.ensures) c.put_plural-places.ensures.0) c.put_text.ensures), omega (arith, c.put_numbered-count.ensures.1, c.put_text-place.ensures.end, c.put_plural-places.ensures.1, c.put_text.ensures.end))
