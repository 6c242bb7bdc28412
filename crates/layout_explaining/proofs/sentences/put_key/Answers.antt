-- Two numbers with their words, and the end.
use native.Mathlib.Omega.{arith}
use Rattle.text.proofs.Writing.{then}
use Rattle.layout_explaining.specs.Sentences.{key_text}
use Rattle.layout_explaining.proofs.sentences.put_key.Goals as goal

pub put_numbered-number-requires : goal.put_numbered-number-requires
put_numbered-number-requires c =
    omega (arith, c.requires)

pub put_numbered-all-requires : goal.put_numbered-all-requires
put_numbered-all-requires c =
    omega (arith, c.requires, c.put_numbered-number.ensures.1)

pub put_text-requires : goal.put_text-requires
put_text-requires c =
    omega (arith, c.requires, c.put_numbered-number.ensures.1, c.put_numbered-all.ensures.1)

pub returns : goal.returns
unfolding key_text
returns c =
    ((then (then c.put_numbered-number.ensures.0 c.put_numbered-all.ensures.0) c.put_text.ensures), omega (arith, c.put_numbered-number.ensures.1, c.put_numbered-all.ensures.1, c.put_text.ensures.end))
