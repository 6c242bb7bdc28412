-- Questions 1 to 4 and 18, then 10 and the keys.
use Rattle.answer.proofs.Passing.{passed_on}
use mathlib.Core.Path.{sym, ap, ◌∙◌}
use mir.Syntax.{w32}
use Rattle.math.proofs.Signed.{read_back_lem}
use Rattle.layout.specs.Parts.{found_outcome}
use Rattle.layout.proofs.Calls.{parts_of}
use Rattle.layout_reach.proofs.Spans.{reach_not_written, reach_given}
use Rattle.layout_reach.proofs.keys_in_reach.Goals as goal

pub write_reach-requires : goal.write_reach-requires
write_reach-requires c = (parts_of _ _ (sym (ap found_outcome c.in_ok-found.was) ∙ c.ask.ensures)).positive

pub returns-in_err-found : goal.returns-in_err-found
returns-in_err-found c =
    rw (passed_on _ _ c.from_residual.ensures)
    (reach_not_written _ _ _ _ (sym (ap found_outcome c.in_err-found.was) ∙ c.ask.ensures) _)

pub returns : goal.returns
returns c =
    reach_given _ _ _ (sym (ap found_outcome c.in_ok-found.was) ∙ c.ask.ensures)
    _ _ (read_back_lem w32 c.args.key c.ranges.key) c.write_reach.ensures
