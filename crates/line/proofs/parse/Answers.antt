-- The three numbers in turn, then the octave's bound.
use mathlib.Core.Path.{◌∙◌}
use Rattle.answer.proofs.Passing.{passed_on}
use Rattle.line.proofs.Fields.{found, missing}
use Rattle.line.proofs.WholeLine.{no_first, no_second, no_third, octave_too_large, line_given}
use Rattle.line.proofs.parse.Goals as goal

pub returns-in_err-genchain : goal.returns-in_err-genchain
returns-in_err-genchain c =
    let none = missing _ _ _ _ c.ok_or.ensures.value c.in_err-genchain.was in
    rw (passed_on _ _ c.from_residual.ensures, none.1) (no_first _ (none.0 ∙ c.read_field.ensures))

pub returns-in_err-octave : goal.returns-in_err-octave
returns-in_err-octave c =
    let none = missing _ _ _ _ c.ok_or-2.ensures.value c.in_err-octave.was in
    rw (passed_on _ _ c.from_residual-in_err-octave.ensures, none.1)
    (no_second _ _ _ (found _ _ _ _ c.ok_or.ensures.value c.in_ok-genchain.was ∙ c.read_field.ensures)
    (none.0 ∙ c.read_field-2.ensures))

pub returns-in_err-tritave : goal.returns-in_err-tritave
returns-in_err-tritave c =
    let none = missing _ _ _ _ c.ok_or-3.ensures.value c.in_err-tritave.was in
    rw (passed_on _ _ c.from_residual-in_err-tritave.ensures, none.1)
    (no_third _ _ _ (found _ _ _ _ c.ok_or.ensures.value c.in_ok-genchain.was ∙ c.read_field.ensures) _ _
    (found _ _ _ _ c.ok_or-2.ensures.value c.in_ok-octave.was ∙ c.read_field-2.ensures)
    (none.0 ∙ c.read_field-3.ensures))

pub returns-then-octave-gt4096 : goal.returns-then-octave-gt4096
returns-then-octave-gt4096 c =
    octave_too_large _ _ _ (found _ _ _ _ c.ok_or.ensures.value c.in_ok-genchain.was ∙ c.read_field.ensures) _ _
    (found _ _ _ _ c.ok_or-2.ensures.value c.in_ok-octave.was ∙ c.read_field-2.ensures) _ _
    (found _ _ _ _ c.ok_or-3.ensures.value c.in_ok-tritave.was ∙ c.read_field-3.ensures)
    c.if-octave-gt4096.true

pub returns : goal.returns
returns c =
    line_given _ _ _ (found _ _ _ _ c.ok_or.ensures.value c.in_ok-genchain.was ∙ c.read_field.ensures) _ _
    (found _ _ _ _ c.ok_or-2.ensures.value c.in_ok-octave.was ∙ c.read_field-2.ensures) _ _
    (found _ _ _ _ c.ok_or-3.ensures.value c.in_ok-tritave.was ∙ c.read_field-3.ensures)
    c.if-octave-gt4096.false
