use Rattle.edo_tritaves.proofs.Meeting.{table_meets_the_rule, every_division_meets_the_rule}
use Rattle.edo_tritaves.proofs.Choosing.{one_tritave, never_both}
use Rattle.edo_layouts.proofs.Choosing.{layouts_are_chosen}
use Rattle.edo_counts.proofs.Sums.{every_layout_is_counted}
use Rattle.edo_counts.proofs.Sharpness.{sides_are_sharpness}
use Rattle.edo_lines.proofs.Outputs.{later_bytes_change_nothing}
use Rattle.claims.proofs.w_202.Goals as goal

pub returns : goal.returns
returns c =
    (table_meets_the_rule, every_division_meets_the_rule, one_tritave, never_both, layouts_are_chosen, every_layout_is_counted, sides_are_sharpness, later_bytes_change_nothing)
