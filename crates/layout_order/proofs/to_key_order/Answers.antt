use Rattle.layout_order.specs.Answers.{get_key_order}
use Rattle.layout_order.specs.Parts.{get_order}
use Rattle.layout_order.proofs.to_key_order.Goals as goal

pub returns : goal.returns
unfolding get_key_order get_order
returns c = c.rearrange.ensures
