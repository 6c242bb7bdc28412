use Rattle.mos_moves.proofs.Combining.{moves_reach_all}
use Rattle.mos_moves.proofs.Theorems.{patterns_tell_their_moves}
use Rattle.layout_moves.proofs.Theorems.{layouts_have_moves, moves_reach_every_key}
use Rattle.claims.proofs.beyond.moves_reach_all.Goals as goal

pub returns : goal.returns
returns c = (moves_reach_all, patterns_tell_their_moves, layouts_have_moves, moves_reach_every_key)
