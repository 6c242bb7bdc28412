-- The word, then the digits.
use native.Mathlib.Omega.{arith}
use Rattle.text.proofs.Writing.{then}
use Rattle.layout_explaining.proofs.Wording.{twenty_digits}
use borrow.Author.Rules.{rules}
use Rattle.layout_explaining.proofs.sentences.put_numbered.Goals as goal

pub put_text-next-requires : goal.put_text-next-requires
put_text-next-requires c =
    omega (arith, c.requires)

pub put_long-requires : goal.put_long-requires
put_long-requires c =
    omega (arith, c.requires, c.put_text-next.ensures.end, twenty_digits c.args.n (search rules))

pub returns : goal.returns
returns c =
    ((then c.put_text-next.ensures c.put_long.ensures), omega (arith, c.put_text-next.ensures.end, c.put_long.ensures.end, twenty_digits c.args.n (search rules)))
