-- The sentence's parts, one after the other.
use native.Mathlib.Omega.{arith}
use Rattle.text.proofs.Writing.{then}
use Rattle.layout_explaining.specs.Sentences.{moved_text}
use Rattle.layout_explaining.proofs.sentences.put_moved.Goals as goal

pub put_where-stands-requires : goal.put_where-stands-requires
put_where-stands-requires c =
    omega (arith, c.requires)

pub put_stars-starred-requires : goal.put_stars-starred-requires
put_stars-starred-requires c =
    omega (arith, c.requires, c.put_where-stands.ensures.1)

pub put_product-product-requires : goal.put_product-product-requires
put_product-product-requires c =
    omega (arith, c.requires, c.put_where-stands.ensures.1, c.put_stars-starred.ensures.1)

pub put_text-are-requires : goal.put_text-are-requires
put_text-are-requires c =
    omega (arith, c.requires, c.put_where-stands.ensures.1, c.put_stars-starred.ensures.1, c.put_product-product.ensures.1)

pub put_key-requires : goal.put_key-requires
put_key-requires c =
    omega (arith, c.requires, c.put_where-stands.ensures.1, c.put_stars-starred.ensures.1, c.put_product-product.ensures.1, c.put_text-are.ensures.end)

pub returns : goal.returns
unfolding moved_text
returns c =
    ((then (then (then (then c.put_where-stands.ensures.0 c.put_stars-starred.ensures.0) c.put_product-product.ensures.0) c.put_text-are.ensures) c.put_key.ensures.0), omega (arith, c.put_where-stands.ensures.1, c.put_stars-starred.ensures.1, c.put_product-product.ensures.1, c.put_text-are.ensures.end, c.put_key.ensures.1))
