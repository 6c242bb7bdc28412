-- One comparison for the remainder.
use Rattle.pergen.proofs.CarriedWalk.{turn_stays, turn_wraps}
use Rattle.layout_retuning.proofs.parts.raised.Goals as goal

pub returns-then-key-left : goal.returns-then-key-left
returns-then-key-left c = turn_stays _ _ _ c.requires.1 c.if-key-left.true

pub returns : goal.returns
returns c = turn_wraps _ _ _ c.requires.1 c.requires.0 c.if-key-left.false
