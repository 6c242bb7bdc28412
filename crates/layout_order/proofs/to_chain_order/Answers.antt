use Rattle.layout_order.specs.Answers.{get_chain_order}
use Rattle.layout_order.specs.Parts.{get_order}
use Rattle.layout_order.proofs.to_chain_order.Goals as goal

pub returns : goal.returns
unfolding get_chain_order get_order
returns c = c.rearrange.ensures
