-- The pattern's steps, divided by the number of cycles.
use Rattle.layout.proofs.Kept.{made_ready}
use Rattle.layout_layers.proofs.PreparedLayers.{some_cycles, sizes_asked, sizes_made}
use Rattle.layout_layers.proofs.keys.sizes_of.Goals as goal

pub divided-x-requires : goal.divided-x-requires
divided-x-requires c = some_cycles c.args.prepared (made_ready c.args.prepared)

pub divided-y-requires : goal.divided-y-requires
divided-y-requires c = some_cycles c.args.prepared (made_ready c.args.prepared)

pub sizes_by-requires : goal.sizes_by-requires
sizes_by-requires c = sizes_asked c.args.prepared (made_ready c.args.prepared) _ _ c.divided-x.ensures c.divided-y.ensures

pub returns : goal.returns
returns c =
    sizes_made c.args.prepared (made_ready c.args.prepared) _ _ c.divided-x.ensures c.divided-y.ensures _ c.sizes_by.ensures
