-- The quotient fits, and so do minus it and one more.
use borrow.Author.Rules.{rules}
use Rattle.mos_moves.proofs.SignedRows.{q_small, number_fits, minus_fits, plus_fits, genesis_is}
use Rattle.mos_moves.proofs.parts.start.Goals as goal

pub overflow_cast-q : goal.overflow_cast-q
overflow_cast-q c = number_fits _ (q_small c.args.period c.args.generator (search rules))

pub overflow_sub-result : goal.overflow_sub-result
overflow_sub-result c = minus_fits _ (q_small c.args.period c.args.generator (search rules))

pub overflow_add-result : goal.overflow_add-result
overflow_add-result c = plus_fits c.args.period c.args.generator (search rules)

pub returns : goal.returns
returns c = genesis_is c.args.period c.args.generator (search rules)
