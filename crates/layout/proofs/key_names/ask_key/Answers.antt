-- Questions 1 to 4 and 18 by the chain's row, then the key round the octave.
use mir.Syntax.{w32}
use mathlib.Core.Path.{sym, ap, ◌∙◌}
use native.Mathlib.Omega.{arith}
use Rattle.math.proofs.Answers.{remainder_read}
use Rattle.math.proofs.Division.{remainder_below}
use Rattle.layout.specs.Parts.{found_outcome}
use Rattle.layout.proofs.Calls.{row_found}
use Rattle.layout.proofs.Kept.{parts_found}
use Rattle.layout.proofs.key_names.ask_key.Goals as goal

pub rem_u16-number-requires : goal.rem_u16-number-requires
rem_u16-number-requires c = (parts_found c.in_ok-found.found).positive

pub invariant_of-result : goal.invariant_of-result
invariant_of-result c =
    let key = c.args.key in
    let round = remainder_read w32 key c.ranges.key _ _ c.rem_u16-number.ensures in
    record {
      row_is = row_found _ _ (sym (ap found_outcome c.in_ok-found.was) ∙ c.ask_with_row.ensures) _ c.row-row.ensures;
      below = omega (arith, round, remainder_below key _ (parts_found c.in_ok-found.found).positive);
    }

pub returns : goal.returns
returns c =
    (sym (ap found_outcome c.in_ok-found.was) ∙ c.ask_with_row.ensures, remainder_read w32 c.args.key c.ranges.key _ _ c.rem_u16-number.ensures)
