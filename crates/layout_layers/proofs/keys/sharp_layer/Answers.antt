-- Full layers come first.
use native.Mathlib.Omega.{arith}
use Rattle.layout_layers.proofs.LayerPlaces.{sharp_fits, layer_small, layer_full, layer_partial}
use Rattle.layout_layers.proofs.keys.sharp_layer.Goals as goal

pub overflow_mul-whole : goal.overflow_mul-whole
overflow_mul-whole c = omega (arith, c.requires.0.places_fit, (sharp_fits c.args.sizes c.requires.0).0)

pub returns-then-place-whole : goal.returns-then-place-whole
returns-then-place-whole c = layer_full c.args.sizes c.requires.0 c.args.place c.if-place-whole.true

pub overflow_add-result : goal.overflow_add-result
overflow_add-result c = omega (arith, layer_small c.args.sizes c.requires.0 c.args.place c.if-place-whole.false)

pub returns : goal.returns
returns c = layer_partial c.args.sizes c.requires.0 c.args.place c.if-place-whole.false c.requires.1
