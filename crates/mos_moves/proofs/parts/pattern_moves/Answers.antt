-- The pattern's place on the walk bounds each product and quotient.
use native.Mathlib.Omega.{arith}
use borrow.Author.Rules.{rules}
use Rattle.mos.specs.Patterns.{primaries}
use Rattle.mos_moves.proofs.SignedRows.{number_fits, minus_fits}
use Rattle.mos_moves.proofs.Theorems.{first_product, step_below, second_product, second_sum, down_small, up_small, own_table}
use Rattle.mos_moves.proofs.parts.pattern_moves.Goals as goal

pub overflow_mul-down : goal.overflow_mul-down
overflow_mul-down c =
    omega (arith, first_product c.args.period c.args.generator c.requires.0 (search rules) (search rules) c.args.pattern c.requires.1)

pub overflow_sub-down : goal.overflow_sub-down
overflow_sub-down c =
    step_below c.args.period c.args.generator c.requires.0 (search rules) (search rules) c.args.pattern c.requires.1

pub overflow_mul-up : goal.overflow_mul-up
overflow_mul-up c =
    omega (arith, second_product c.args.period c.args.generator c.requires.0 (search rules) (search rules) c.args.pattern c.requires.1)

pub overflow_add-up : goal.overflow_add-up
overflow_add-up c =
    omega (arith, second_sum c.args.period c.args.generator c.requires.0 (search rules) (search rules) c.args.pattern c.requires.1)

pub overflow_cast-result : goal.overflow_cast-result
overflow_cast-result c =
    number_fits _ (down_small c.args.period c.args.generator c.requires.0 (search rules) (search rules) c.args.pattern c.requires.1)

pub overflow_sub-result : goal.overflow_sub-result
overflow_sub-result c =
    minus_fits _ (down_small c.args.period c.args.generator c.requires.0 (search rules) (search rules) c.args.pattern c.requires.1)

pub overflow_cast-result-3 : goal.overflow_cast-result-3
overflow_cast-result-3 c =
    number_fits _ (up_small c.args.period c.args.generator c.requires.0 (search rules) (search rules) c.args.pattern c.requires.1)

pub overflow_sub-result-2 : goal.overflow_sub-result-2
overflow_sub-result-2 c =
    minus_fits (primaries c.args.pattern) (search rules)

pub returns : goal.returns
returns c =
    own_table c.args.period c.args.generator c.requires.0 (search rules) (search rules) c.args.pattern c.requires.1
