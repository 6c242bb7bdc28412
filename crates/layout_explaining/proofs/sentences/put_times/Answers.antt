-- How often, and the words around.
use native.Mathlib.Omega.{arith}
use Rattle.text.proofs.Writing.{then}
use Rattle.layout_explaining.proofs.Wording.{twenty_quotient}
use Rattle.layout_explaining.specs.Sentences.{times_text}
use borrow.Author.Rules.{rules}
use Rattle.layout_explaining.proofs.sentences.put_times.Goals as goal

pub put_long-count-requires : goal.put_long-count-requires
put_long-count-requires c =
    omega (arith, c.requires, twenty_quotient c.args.distance.apart c.args.distance.reduced_period (search rules))

pub put_numbered-times-requires : goal.put_numbered-times-requires
put_numbered-times-requires c =
    omega (arith, c.requires, c.put_long-count.ensures.end, twenty_quotient c.args.distance.apart c.args.distance.reduced_period (search rules))

pub put_text-requires : goal.put_text-requires
put_text-requires c =
    omega (arith, c.requires, c.put_long-count.ensures.end, c.put_numbered-times.ensures.1, twenty_quotient c.args.distance.apart c.args.distance.reduced_period (search rules))

pub returns : goal.returns
unfolding times_text
returns c = (
  then (then c.put_long-count.ensures c.put_numbered-times.ensures.0) c.put_text.ensures,
  omega (arith, c.put_long-count.ensures.end, c.put_numbered-times.ensures.1, c.put_text.ensures.end, twenty_quotient c.args.distance.apart c.args.distance.reduced_period (search rules)),
)
