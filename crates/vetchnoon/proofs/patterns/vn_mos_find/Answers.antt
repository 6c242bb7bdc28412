-- Question 2; the walk from the genesis the check finds by itself.
use Rattle.answer.specs.Refusals.{outcome_of}
use mathlib.Core.Path.{sym, ap, ◌∙◌}
use Rattle.vetchnoon_codes.proofs.Coding.{coded, fills_refused}
use Rattle.vetchnoon.proofs.Outputs.{find_refused}
use Rattle.vetchnoon.proofs.patterns.vn_mos_find.Goals as goal

pub returns-in-Err : goal.returns-in-Err
returns-in-Err c =
    fills_refused _ _ (find_refused _ _ _ _ (sym (ap outcome_of c.in-Err.is) ∙ c.new_genesis.ensures))
    (coded c.refused.type_inv c.refused.ensures)
