-- How many patterns were stored, or else question 22, or else question 10: one law for each end.
use Rattle.answer.specs.Refusals.{outcome_of}
use Rattle.answer.proofs.Passing.{passed_on}
use mathlib.Core.Path.{sym, ap, ◌∙◌}
use Rattle.mos_fractional.proofs.Storing.{answered_stored, answered_refused, answered_short}
use Rattle.mos_fractional.proofs.walks.answer.Goals as goal

pub returns-then-count-gt0 : goal.returns-then-count-gt0
returns-then-count-gt0 c = answered_stored c.args.generator _ c.if-count-gt0.true

pub returns-in_err-_genesis : goal.returns-in_err-_genesis
returns-in_err-_genesis c =
    rw (passed_on _ _ c.from_residual.ensures)
    (answered_refused c.args.generator c.args.count c.if-count-gt0.false (sym (ap outcome_of c.in_err-_genesis.was) ∙ c.new_genesis.ensures))

pub returns : goal.returns
returns c =
    answered_short c.args.generator c.args.count c.if-count-gt0.false _
    (sym (ap outcome_of c.in_ok-_genesis.was) ∙ c.new_genesis.ensures)
