-- The layer times the cycles, and the key's cycle.
use Rattle.layout.proofs.Kept.{made_ready}
use native.Mathlib.Omega.{arith}
use borrow.Author.Rules.{rules}
use Rattle.layout_layers.proofs.PreparedLayers.{number_made, number_fits}
use Rattle.layout_layers.proofs.keys.number_of.Goals as goal

pub overflow_mul-result : goal.overflow_mul-result
overflow_mul-result c =
    omega (arith, number_fits c.args.prepared (made_ready c.args.prepared) c.args.key c.requires.0 (search rules) _ c.layer_of.ensures)

pub overflow_add-result : goal.overflow_add-result
overflow_add-result c =
    omega (arith, number_fits c.args.prepared (made_ready c.args.prepared) c.args.key c.requires.0 (search rules) _ c.layer_of.ensures)

pub returns : goal.returns
returns c =
    number_made c.args.prepared (made_ready c.args.prepared) c.args.key c.requires.0 (search rules) _ c.layer_of.ensures
