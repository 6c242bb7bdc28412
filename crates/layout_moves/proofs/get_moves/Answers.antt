-- Questions 1 to 4 and 18, then the moves by the pattern's own numbers.
use Rattle.answer.proofs.Passing.{passed_on}
use mathlib.Core.Path.{sym, ap, ◌∙◌}
use Rattle.layout.specs.Parts.{found_outcome}
use Rattle.layout.proofs.Calls.{parts_of}
use Rattle.layout_moves.proofs.Theorems.{on_walk, moves_refused, moves_given}
use Rattle.layout_moves.proofs.get_moves.Goals as goal

pub pattern_moves-requires : goal.pattern_moves-requires
pattern_moves-requires c =
    let parts = parts_of _ _ (sym (ap found_outcome c.in_ok-found.was) ∙ c.ask.ensures) in
    (parts.positive, on_walk _ parts)

pub returns-in_err-found : goal.returns-in_err-found
returns-in_err-found c =
    rw (passed_on _ _ c.from_residual.ensures)
    (moves_refused _ _ _ (sym (ap found_outcome c.in_err-found.was) ∙ c.ask.ensures))

pub returns : goal.returns
returns c =
    moves_given _ _ _ (sym (ap found_outcome c.in_ok-found.was) ∙ c.ask.ensures) _ c.pattern_moves.ensures
