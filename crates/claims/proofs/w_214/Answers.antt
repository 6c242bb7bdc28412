use Rattle.layout_order.proofs.Places.{chain_order_is_a_permutation}
use Rattle.layout_order.proofs.Placing.{entries_go_to_their_places, each_undoes_the_other}
use Rattle.layout_order.proofs.Ordering.{calls_undo_each_other}
use Rattle.mos_moves.proofs.Walking.{moves_beside_patterns, moves_stand_beside_the_pattern}
use Rattle.mos_moves.proofs.Theorems.{moves_reach_their_steps}
use Rattle.claims.proofs.w_214.Goals as goal

pub returns : goal.returns
returns c =
    (chain_order_is_a_permutation, entries_go_to_their_places, each_undoes_the_other, calls_undo_each_other, moves_beside_patterns, moves_reach_their_steps, moves_stand_beside_the_pattern)
