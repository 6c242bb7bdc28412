-- The questions of both layouts, then those of the spelling with these signs.
use Rattle.answer.proofs.Passing.{passed_on}
use Rattle.layout_retuning.specs.Parts.{tunings_outcome}
use mathlib.Core.Path.{sym, ap, ◌∙◌}
use mir.Syntax.{w32}
use Rattle.math.proofs.Signed.{read_back_lem}
use Rattle.layout_retuning.proofs.Calls.{moved_refused, moved_with_signs}
use Rattle.layout_retuning.proofs.moved.Goals as goal

pub returns-in_err-tunings : goal.returns-in_err-tunings
returns-in_err-tunings c =
    rw (passed_on _ _ c.from_residual.ensures)
    (moved_refused _ _ _ (sym (ap tunings_outcome c.in_err-tunings.was) ∙ c.ask.ensures))

pub returns : goal.returns
returns c =
    moved_with_signs _ _ _ c.args.signs _ _ (read_back_lem w32 c.args.signs c.ranges.signs) c.from_number.ensures
    _ (sym (ap tunings_outcome c.in_ok-tunings.was) ∙ c.ask.ensures) _ c.moved_in.ensures
