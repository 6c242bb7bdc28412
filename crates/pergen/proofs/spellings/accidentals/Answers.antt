-- Both branches of the definition; each index is below the number of symbols and each count below the reduced period.
use native.Mathlib.Nat.{mod-le, div-le_self}
use native.Mathlib.Omega.{arith}
use Rattle.math.proofs.Congruence.{mod_room}
use Rattle.pergen.specs.Spelling.{by_coordinates, by_indices}
use Rattle.pergen.proofs.Indices.{accidentals_low, accidentals_high, low_sharp_small, low_flat_small, sharp_small, flat_small}
use borrow.Author.Rules.{rules}
use Rattle.pergen.proofs.spellings.accidentals.Goals as goal

pub overflow_cast-result : goal.overflow_cast-result
overflow_cast-result c = omega (arith, low_sharp_small c.args.reduced_period c.args.format.num_symbols c.args.format.genchain_origin c.args.generation.degree _ c.low_sharp_index-sharp.ensures (search rules) (search rules) (search rules))

pub overflow_cast-result-then-reduced-symbols : goal.overflow_cast-result-then-reduced-symbols
overflow_cast-result-then-reduced-symbols c = omega (arith, low_flat_small c.args.reduced_period c.args.format.num_symbols c.args.format.genchain_origin c.args.generation.degree _ c.low_flat_index-flat.ensures (search rules) (search rules) (search rules))

pub returns-then-reduced-symbols : goal.returns-then-reduced-symbols
unfolding by_indices
returns-then-reduced-symbols c = accidentals_low _ _ _ _ _ c.if-reduced-symbols.true _ _ c.low_sharp_index-sharp.ensures c.low_flat_index-flat.ensures

pub overflow_cast-result-2 : goal.overflow_cast-result-2
overflow_cast-result-2 c = omega (arith, mod-le c.sharp_coordinate-sharp.result c.args.format.num_symbols, sharp_small _ _ _ c.sharp_coordinate-sharp.ensures (search rules))

pub overflow_cast-result-3 : goal.overflow_cast-result-3
overflow_cast-result-3 c = omega (arith, div-le_self c.sharp_coordinate-sharp.result c.args.format.num_symbols, sharp_small _ _ _ c.sharp_coordinate-sharp.ensures (search rules))

pub overflow_sub-result-2 : goal.overflow_sub-result-2
overflow_sub-result-2 c = mod_room _ _ (search rules)

pub overflow_cast-result-5 : goal.overflow_cast-result-5
overflow_cast-result-5 c = omega (arith, div-le_self c.flat_coordinate-flat.result c.args.format.num_symbols, flat_small _ _ _ _ c.flat_coordinate-flat.ensures (search rules))

pub returns : goal.returns
unfolding by_coordinates
returns c = accidentals_high _ _ _ _ _ c.if-reduced-symbols.false _ _ c.sharp_coordinate-sharp.ensures c.flat_coordinate-flat.ensures
