-- One comparison for the remainder.
use Rattle.layout_layers.proofs.PlanLaws.{place_stays, place_wraps}
use Rattle.layout_layers.proofs.keys.chain_place.Goals as goal

pub returns-then-degree-left : goal.returns-then-degree-left
returns-then-degree-left c = place_stays _ _ _ c.requires.0 c.if-degree-left.true

pub returns : goal.returns
returns c = place_wraps _ _ _ c.requires.0 c.requires.1 c.if-degree-left.false
