-- Questions 1 to 4 and 18, then the two spellings of the key round the octave.
use Rattle.answer.proofs.Passing.{passed_on}
use mir.Syntax.{w32}
use mathlib.Core.Path.{refl, sym, ap, ◌∙◌}
use Rattle.math.proofs.Answers.{remainder_read}
use Rattle.pergen.proofs.CarriedWalk.{round_found}
use Rattle.pergen.proofs.Calls.{accidentals_from_zero}
use Rattle.layout.specs.Layouts.{accidentals_in}
use Rattle.layout.specs.Parts.{found_outcome}
use Rattle.layout.proofs.Kept.{parts_found}
use Rattle.layout.proofs.Calls.{accidentals_refused, accidentals_given}
use Rattle.layout.proofs.IsomorphicLayout.get_accidentals.Goals as goal

pub solve-solved-requires : goal.solve-solved-requires
solve-solved-requires c =
    (parts_found c.in_ok-found.found).positive

pub rem_u16-index-requires : goal.rem_u16-index-requires
rem_u16-index-requires c =
    (parts_found c.in_ok-found.found).positive

pub spelled-requires : goal.spelled-requires
spelled-requires c =
    let key = c.args.key in
    let p = parts_found c.in_ok-found.found in
    let asked = round_found _ _ p.positive _ c.solve-solved.ensures key _ (remainder_read w32 key c.ranges.key _ _ c.rem_u16-index.ensures) in
    (p.start_below, asked.0, asked.1)

pub returns-in_err-found : goal.returns-in_err-found
returns-in_err-found c =
    rw (passed_on _ _ c.from_residual.ensures)
    (accidentals_refused _ _ (sym (ap found_outcome c.in_err-found.was) ∙ c.ask.ensures) _)

pub returns : goal.returns
unfolding accidentals_in
returns c =
    let key = c.args.key in
    let e = sym (ap found_outcome c.in_ok-found.was) ∙ c.ask.ensures in
    accidentals_given _ _ e key _ (remainder_read w32 key c.ranges.key _ _ c.rem_u16-index.ensures) _
    (accidentals_from_zero _ _ _ c.solve-solved.ensures _ _ _ _ _ (parts_found c.in_ok-found.found).positive refl c.spelled.ensures)
