-- Of a key that is carried along, degree and cycle are those of its number.
use Rattle.layout.proofs.Kept.{made_ready}
use Rattle.layout_order.proofs.Carrying.{chain_position, number_position}
use Rattle.layout_order.proofs.parts.ListOrder.position_of.Goals as goal

pub returns-in-Chain : goal.returns-in-Chain
returns-in-Chain c = rw c.in-Chain.is (chain_position _ (made_ready c.args.prepared) _ c.requires)

pub returns-in-Keys : goal.returns-in-Keys
returns-in-Keys c = rw c.in-Keys.is (number_position _ (made_ready c.args.prepared) _ c.requires)
