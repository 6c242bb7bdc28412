-- Places are left for the enharmonic layer, or they are not.
use native.Mathlib.Omega.{arith}
use Rattle.layout_layers.proofs.LayerPlaces.{sharp_fits, count_without, count_with, count_fits}
use Rattle.layout_layers.proofs.keys.count_of.Goals as goal

pub overflow_add-layers : goal.overflow_add-layers
overflow_add-layers c =
    let fits = count_fits c.args.sizes c.requires in omega (arith, fits.0, fits.1)

pub overflow_sub-sizes : goal.overflow_sub-sizes
overflow_sub-sizes c = omega (arith, c.sharp_places-sharp.ensures, (sharp_fits c.args.sizes c.requires).0)

pub overflow_sub-sharp : goal.overflow_sub-sharp
overflow_sub-sharp c = omega (arith, c.sharp_places-sharp.ensures, (sharp_fits c.args.sizes c.requires).1)

pub overflow_sub-result : goal.overflow_sub-result
overflow_sub-result c = omega (arith, c.requires.some_full)

pub overflow_add-result : goal.overflow_add-result
overflow_add-result c =
    omega (arith, count_without c.args.sizes c.requires _ c.sharp_places-sharp.ensures c.if-sizes-sharp.true, (count_fits c.args.sizes c.requires).1)

pub returns-then-sizes-sharp : goal.returns-then-sizes-sharp
returns-then-sizes-sharp c = count_without c.args.sizes c.requires _ c.sharp_places-sharp.ensures c.if-sizes-sharp.true

pub overflow_add-result-2 : goal.overflow_add-result-2
overflow_add-result-2 c =
    omega (arith, count_with c.args.sizes c.requires _ c.sharp_places-sharp.ensures c.if-sizes-sharp.false, (count_fits c.args.sizes c.requires).1)

pub returns : goal.returns
returns c = count_with c.args.sizes c.requires _ c.sharp_places-sharp.ensures c.if-sizes-sharp.false
