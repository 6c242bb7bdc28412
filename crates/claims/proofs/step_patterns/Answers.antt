use Rattle.mos.proofs.Theorems.{walks_are_whole, child_keeps, parent_undoes_child, counts_grow, genesis_is_found_again, coprime_ends}
use Rattle.claims.proofs.step_patterns.Goals as goal

pub returns : goal.returns
returns c = (walks_are_whole, child_keeps, parent_undoes_child, counts_grow, genesis_is_found_again, coprime_ends)
