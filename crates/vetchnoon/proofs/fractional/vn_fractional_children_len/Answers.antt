-- A walk has at most 65,535 patterns, so their number fits.
use Rattle.vetchnoon.proofs.FractionalCalls.{small_length}
use Rattle.vetchnoon.proofs.fractional.vn_fractional_children_len.Goals as goal

pub count-requires : goal.count-requires
count-requires c = small_length c.args.generator c.children_len.result c.children_len.ensures
