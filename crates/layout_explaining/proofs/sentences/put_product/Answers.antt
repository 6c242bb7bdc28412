-- So many generators, the way, and the stars.
use native.Mathlib.Omega.{arith}
use Rattle.text.proofs.Writing.{then}
use Rattle.layout_explaining.specs.Sentences.{product_text}
use Rattle.layout_explaining.proofs.sentences.put_product.Goals as goal

pub put_numbered-count-requires : goal.put_numbered-count-requires
put_numbered-count-requires c =
    omega (arith, c.requires)

pub put_numbered-times-requires : goal.put_numbered-times-requires
put_numbered-times-requires c =
    omega (arith, c.requires, c.put_numbered-count.ensures.1)

pub put_text-keys-requires : goal.put_text-keys-requires
put_text-keys-requires c =
    omega (arith, c.requires, c.put_numbered-count.ensures.1, c.put_numbered-times.ensures.1)

pub put_way-way-requires : goal.put_way-way-requires
put_way-way-requires c =
    omega (arith, c.requires, c.put_numbered-count.ensures.1, c.put_numbered-times.ensures.1, c.put_text-keys.ensures.end)

pub put_raised-requires : goal.put_raised-requires
put_raised-requires c =
    omega (arith, c.requires, c.put_numbered-count.ensures.1, c.put_numbered-times.ensures.1, c.put_text-keys.ensures.end, c.put_way-way.ensures.1)

pub returns : goal.returns
unfolding product_text
returns c =
    ((then (then (then (then c.put_numbered-count.ensures.0 c.put_numbered-times.ensures.0) c.put_text-keys.ensures) c.put_way-way.ensures.0) c.put_raised.ensures.0), omega (arith, c.put_numbered-count.ensures.1, c.put_numbered-times.ensures.1, c.put_text-keys.ensures.end, c.put_way-way.ensures.1, c.put_raised.ensures.1))
