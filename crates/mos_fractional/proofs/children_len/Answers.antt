-- Question 22, then the count of the walk from the genesis.
use Rattle.answer.specs.Refusals.{outcome_of}
use Rattle.answer.proofs.Passing.{passed_on}
use mathlib.Core.Path.{sym, ap, ◌∙◌}
use lib.ListN.{length}
use Rattle.mos_fractional.specs.declared.FractionalMos.{FractionalMos}
use Rattle.mos_fractional.specs.Walk.{children}
use Rattle.mos_fractional.proofs.Descent.{same_refusal, fact_told}
use Rattle.mos_fractional.proofs.Walking.{growing_told}
use Rattle.mos_fractional.proofs.children_len.Goals as goal

pub count_from-requires : goal.count_from-requires
count_from-requires c = growing_told c.args.generator (sym (ap outcome_of c.in_ok-first.was) ∙ c.new_genesis.ensures)

pub returns-in_err-first : goal.returns-in_err-first
returns-in_err-first c =
    rw (passed_on _ _ c.from_residual.ensures) (same_refusal c.args.generator _ (sym (ap outcome_of c.in_err-first.was) ∙ c.new_genesis.ensures))

pub returns : goal.returns
returns c =
    fact_told c.args.generator (λ (m : FractionalMos). length (children m))
    (sym (ap outcome_of c.in_ok-first.was) ∙ c.new_genesis.ensures) c.count_from.ensures
