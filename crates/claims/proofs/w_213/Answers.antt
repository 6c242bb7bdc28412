use Rattle.mos_fractional.proofs.Theorems.{whole_parts_are_exact, remainder_is_exact, walk_is_whole, fractional_counts_grow}
use Rattle.claims.proofs.w_213.Goals as goal

pub returns : goal.returns
returns c = (whole_parts_are_exact, remainder_is_exact, walk_is_whole, fractional_counts_grow)
