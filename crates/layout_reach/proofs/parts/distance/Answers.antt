-- The gap, from the lower to the higher, and the shorter way of it.
use Rattle.layout_reach.proofs.Blocks.{distance_gap}
use Rattle.layout_reach.proofs.parts.distance.Goals as goal

pub returns : goal.returns
returns c = distance_gap _ _ _ _ _ c.requires.0 c.requires.1 c.abs_diff.ensures c.shorter.ensures
