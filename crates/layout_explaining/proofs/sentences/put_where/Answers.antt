-- Places, the way, and the letter of key 0.
use native.Mathlib.Omega.{arith}
use Rattle.text.proofs.Writing.{then}
use Rattle.layout_explaining.proofs.Wording.{letter_short}
use Rattle.layout_explaining.specs.Sentences.{where_text}
use Rattle.layout_explaining.proofs.sentences.put_where.Goals as goal

pub put_numbered-count-requires : goal.put_numbered-count-requires
put_numbered-count-requires c =
    omega (arith, c.requires)

pub put_text-place-requires : goal.put_text-place-requires
put_text-place-requires c =
    omega (arith, c.requires, c.put_numbered-count.ensures.1)

pub put_plural-places-requires : goal.put_plural-places-requires
put_plural-places-requires c =
    omega (arith, c.requires, c.put_numbered-count.ensures.1, c.put_text-place.ensures.end)

pub put_way-way-requires : goal.put_way-way-requires
put_way-way-requires c =
    omega (arith, c.requires, c.put_numbered-count.ensures.1, c.put_text-place.ensures.end, c.put_plural-places.ensures.1)

pub put_text-from-requires : goal.put_text-from-requires
put_text-from-requires c =
    omega (arith, c.requires, c.put_numbered-count.ensures.1, c.put_text-place.ensures.end, c.put_plural-places.ensures.1, c.put_way-way.ensures.1)

pub put_letter-requires : goal.put_letter-requires
put_letter-requires c =
    (c.args.counting.short, omega (arith, c.requires, c.put_numbered-count.ensures.1, c.put_text-place.ensures.end, c.put_plural-places.ensures.1, c.put_way-way.ensures.1, c.put_text-from.ensures.end, letter_short c.args.counting.letter))

pub returns : goal.returns
unfolding where_text
returns c =
    ((then (then (then (then (then c.put_numbered-count.ensures.0 c.put_text-place.ensures) c.put_plural-places.ensures.0) c.put_way-way.ensures.0) c.put_text-from.ensures) c.put_letter.ensures), omega (arith, c.put_numbered-count.ensures.1, c.put_text-place.ensures.end, c.put_plural-places.ensures.1, c.put_way-way.ensures.1, c.put_text-from.ensures.end, c.put_letter.ensures.end, letter_short c.args.counting.letter))
