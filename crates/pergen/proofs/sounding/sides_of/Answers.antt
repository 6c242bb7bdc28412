-- Each arm's sides are those of the spelling that the match found; nothing passes 48 bits.
use native.Mathlib.Omega.{arith}
use Rattle.pergen.proofs.Differences.{signs_small, sharp_sides, flat_sides}
use borrow.Author.Rules.{rules}
use Rattle.pergen.proofs.sounding.sides_of.Goals as goal

pub overflow_mul-result : goal.overflow_mul-result
overflow_mul-result c = omega (arith, signs_small c.args.format.num_symbols c.in-Sharps.count 0 (search rules) (search rules) (search rules))

pub overflow_add-result : goal.overflow_add-result
overflow_add-result c = omega (arith, signs_small c.args.format.num_symbols c.in-Sharps.count c.args.spelling.index (search rules) (search rules) (search rules))

pub overflow_mul-result-in-Flats : goal.overflow_mul-result-in-Flats
overflow_mul-result-in-Flats c = omega (arith, signs_small c.args.format.num_symbols c.in-Flats.count 0 (search rules) (search rules) (search rules))

pub overflow_add-result-in-Flats : goal.overflow_add-result-in-Flats
overflow_add-result-in-Flats c = omega (arith, signs_small c.args.format.num_symbols c.in-Flats.count c.args.format.genchain_origin (search rules) (search rules) (search rules))

pub returns-in-Sharps : goal.returns-in-Sharps
returns-in-Sharps c = sharp_sides _ _ c.args.spelling (search rules) (search rules) (search rules) _ (search rules) c.in-Sharps.is

pub returns-in-Flats : goal.returns-in-Flats
returns-in-Flats c = flat_sides _ _ c.args.spelling (search rules) (search rules) (search rules) _ (search rules) c.in-Flats.is
