-- Two spellings where there is a slash, else one.
use Rattle.answer.proofs.Passing.{passed_on}
use Rattle.answer.specs.Refusals.{outcome_of}
use mathlib.Core.Path.{sym, ap, ◌∙◌}
use native.Mathlib.Omega.{arith}
use Rattle.layout_reading.proofs.Texts.{place_found, place_missing}
use Rattle.layout_reading.proofs.Calls.{find_enclosed, find_slashed, find_refused, find_single}
use Rattle.layout_reading.proofs.reader.Reader.find.Goals as goal

pub returns-in_err-x : goal.returns-in_err-x
returns-in_err-x c =
    rw (passed_on _ _ c.from_residual.ensures)
    (find_refused _ _ _ (place_missing _ _ (sym c.in_default.is ∙ c.place_of.ensures)) (omega arith) _
    (sym (ap outcome_of c.in_err-x.was) ∙ c.read.ensures))

pub returns-in_default : goal.returns-in_default
returns-in_default c =
    find_single _ _ _ (place_missing _ _ (sym c.in_default.is ∙ c.place_of.ensures)) (omega arith) _
    (sym (ap outcome_of c.in_ok-x.was) ∙ c.read.ensures) _ c.key_of.ensures

pub returns-then-self-gt1 : goal.returns-then-self-gt1
returns-then-self-gt1 c =
    let at = place_found _ _ _ (sym c.in-Some.is ∙ c.place_of.ensures) in
    find_enclosed _ _ _ at.0 at.1 _ c.args.self.cycles_are _ c.if-self-gt1.true c.enclosed.ensures

pub returns : goal.returns
returns c =
    let at = place_found _ _ _ (sym c.in-Some.is ∙ c.place_of.ensures) in
    find_slashed _ _ _ at.0 at.1 _ c.args.self.cycles_are _ c.if-self-gt1.false c.slashed.ensures
