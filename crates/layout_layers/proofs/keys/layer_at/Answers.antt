-- Flat, sharp or natural, enharmonic.
use native.Mathlib.Omega.{arith}
use Rattle.layout_layers.proofs.LayerPlaces.{sharp_fits, count_fits, faced_sharp, flat_below, layer_flat, layer_enharmonic}
use Rattle.layout_layers.proofs.keys.layer_at.Goals as goal

pub overflow_sub-sharp : goal.overflow_sub-sharp
overflow_sub-sharp c = omega (arith, c.sharp_places-sharp.ensures, (sharp_fits c.args.sizes c.requires.0).1)

pub overflow_add-behind : goal.overflow_add-behind
overflow_add-behind c =
    omega (
      arith,
      faced_sharp c.args.sizes c.requires.0 c.args.place c.requires.1 _ c.sharp_places-sharp.ensures c.if-behind-sharp.true,
      (sharp_fits c.args.sizes c.requires.0).0,
      c.requires.0.places_fit,
    )

pub sharp_layer-requires : goal.sharp_layer-requires
sharp_layer-requires c =
    (c.requires.0, faced_sharp c.args.sizes c.requires.0 c.args.place c.requires.1 _ c.sharp_places-sharp.ensures c.if-behind-sharp.true)

pub overflow_sub-result : goal.overflow_sub-result
overflow_sub-result c =
    omega (
      arith,
      c.count_of.ensures,
      c.sharp_layer.ensures,
      flat_below c.args.sizes c.requires.0 c.args.place c.requires.1 _ c.sharp_places-sharp.ensures c.if-behind-sharp.true,
    )

pub returns-then-behind-sharp : goal.returns-then-behind-sharp
returns-then-behind-sharp c =
    omega (
      arith,
      c.count_of.ensures,
      c.sharp_layer.ensures,
      layer_flat c.args.sizes c.requires.0 c.args.place c.requires.1 _ c.sharp_places-sharp.ensures c.if-behind-sharp.true,
    )

pub sharp_layer-requires-then-place-sharp : goal.sharp_layer-requires-then-place-sharp
sharp_layer-requires-then-place-sharp c =
    (c.requires.0, omega (arith, c.if-place-sharp.true, c.sharp_places-sharp.ensures))

pub returns-then-place-sharp : goal.returns-then-place-sharp
returns-then-place-sharp c = c.sharp_layer-then-place-sharp.ensures

pub overflow_add-result : goal.overflow_add-result
overflow_add-result c =
    let fits = count_fits c.args.sizes c.requires.0 in
    omega (arith, fits.0, fits.1)

pub returns : goal.returns
returns c =
    layer_enharmonic c.args.sizes c.requires.0 c.args.place c.requires.1
    (omega (arith, c.if-behind-sharp.false, c.sharp_places-sharp.ensures))
    (omega (arith, c.if-place-sharp.false, c.sharp_places-sharp.ensures))
