-- The two layers of an equalized scale, or the element of the list.
use Rattle.layout.proofs.Kept.{made_ready}
use mathlib.Core.Path.{sym, ◌∙◌}
use native.Mathlib.Nat.{div-le_self}
use native.Mathlib.Omega.{arith}
use Rattle.layout_layers.proofs.PreparedLayers.{some_cycles, key_place, layer_alternates, place_inside, layer_listed}
use Rattle.layout_layers.proofs.keys.layer_of.Goals as goal

pub nonzero_div-key : goal.nonzero_div-key
nonzero_div-key c = some_cycles c.args.prepared (made_ready c.args.prepared)

pub alternate_layer-requires : goal.alternate_layer-requires
alternate_layer-requires c =
    let cycles = c.args.prepared.solved.num_cycles in
    omega (arith, div-le_self c.args.key.number cycles, c.requires.1)

pub returns-then-is_equalized : goal.returns-then-is_equalized
returns-then-is_equalized c =
    layer_alternates c.args.prepared (made_ready c.args.prepared) c.args.key c.requires.0 (sym c.if-is_equalized.true ∙ c.is_equalized.ensures) _ c.alternate_layer.ensures

pub chain_place-place-requires : goal.chain_place-place-requires
chain_place-place-requires c = key_place c.args.prepared (made_ready c.args.prepared) c.args.key c.requires.0

pub layer_at-requires : goal.layer_at-requires
layer_at-requires c = (
  c.sizes_of.ensures.countable,
  place_inside c.args.prepared (made_ready c.args.prepared) c.args.key c.requires.0 _ c.chain_place-place.ensures _ c.sizes_of.ensures,
)

pub returns : goal.returns
returns c =
    layer_listed c.args.prepared (made_ready c.args.prepared) c.args.key c.requires.0 _ c.chain_place-place.ensures _ c.sizes_of.ensures
    (sym c.if-is_equalized.false ∙ c.is_equalized.ensures) _ c.layer_at.ensures
