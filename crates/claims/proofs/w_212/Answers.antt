use Rattle.layout_retuning.proofs.Calls.{moves_are_distances}
use Rattle.layout_retuning.proofs.Bound.{moves_are_bounded}
use Rattle.layout_retuning.proofs.Largest.{back_is_as_far, largest_is_the_largest}
use Rattle.layout_retuning.proofs.Tables.{table_is_of_single_calls}
use Rattle.claims.proofs.w_212.Goals as goal

pub returns : goal.returns
returns c = (moves_are_distances, moves_are_bounded, back_is_as_far, table_is_of_single_calls, largest_is_the_largest)
