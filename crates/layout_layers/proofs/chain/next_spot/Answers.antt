-- One comparison for the remainder.
use Rattle.layout_layers.proofs.ChainLaws.{next_stays, next_wraps}
use Rattle.layout_layers.proofs.chain.next_spot.Goals as goal

pub returns-then-spot-left : goal.returns-then-spot-left
returns-then-spot-left c =
    next_stays c.args.chain c.requires.0 c.args.spot c.requires.1 c.if-spot-left.true

pub returns : goal.returns
returns c =
    next_wraps c.args.chain c.requires.0 c.args.spot c.requires.1 c.if-spot-left.false
