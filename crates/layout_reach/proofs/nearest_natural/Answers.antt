-- Questions 1 to 4 and 18, then 16 and the key.
use Rattle.answer.proofs.Passing.{passed_on}
use mathlib.Core.Path.{sym, ap, ◌∙◌}
use mir.Syntax.{w32}
use Rattle.math.proofs.Signed.{read_back_lem}
use Rattle.layout.specs.Parts.{found_outcome}
use Rattle.layout_reach.proofs.Nearest.{nearest_refused, nearest_given}
use Rattle.layout_reach.proofs.nearest_natural.Goals as goal

pub returns-in_err-found : goal.returns-in_err-found
returns-in_err-found c =
    rw (passed_on _ _ c.from_residual.ensures)
    (nearest_refused _ _ _ _ (sym (ap found_outcome c.in_err-found.was) ∙ c.ask.ensures))

pub returns : goal.returns
returns c =
    nearest_given _ _ _ _ (sym (ap found_outcome c.in_ok-found.was) ∙ c.ask.ensures)
    _ (read_back_lem w32 c.args.key c.ranges.key) _ c.nearest_of_letter.ensures
