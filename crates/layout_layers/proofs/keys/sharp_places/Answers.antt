-- Full layers, and those behind them: all are on the chain.
use native.Mathlib.Omega.{arith}
use Rattle.layout_layers.proofs.LayerPlaces.{sharp_fits}
use Rattle.layout_layers.proofs.keys.sharp_places.Goals as goal

pub overflow_mul-result : goal.overflow_mul-result
overflow_mul-result c = omega (arith, c.requires.places_fit, (sharp_fits c.args.sizes c.requires).0)

pub overflow_mul-result-2 : goal.overflow_mul-result-2
overflow_mul-result-2 c = omega (arith, c.requires.places_fit, (sharp_fits c.args.sizes c.requires).0)

pub overflow_add-result : goal.overflow_add-result
overflow_add-result c = omega (arith, c.requires.places_fit, (sharp_fits c.args.sizes c.requires).0)
