-- Whichever is the larger.
use Rattle.layout_explaining.proofs.Numbers.{apart_by}
use Rattle.layout_explaining.proofs.counting.between.Goals as goal

pub returns : goal.returns
returns c = apart_by _ _ _ c.abs_diff.ensures
