-- Question 22, then the k-th pattern of the walk from the genesis.
use Rattle.std.specs.Prelude.{slice_get}
use Rattle.answer.specs.Refusals.{outcome_of}
use Rattle.answer.proofs.Passing.{passed_on}
use mathlib.Core.Path.{sym, ap, ◌∙◌}
use Rattle.mos_fractional.specs.declared.FractionalMos.{FractionalMos}
use Rattle.mos_fractional.specs.Walk.{children}
use Rattle.mos_fractional.proofs.Descent.{same_refusal, fact_told}
use Rattle.mos_fractional.proofs.Walking.{growing_told}
use Rattle.mos_fractional.proofs.nth_child.Goals as goal

pub nth_from-requires : goal.nth_from-requires
nth_from-requires c = growing_told c.args.generator (sym (ap outcome_of c.in_ok-first.was) ∙ c.new_genesis.ensures)

pub returns-in_err-first : goal.returns-in_err-first
returns-in_err-first c =
    rw (passed_on _ _ c.from_residual.ensures) (same_refusal c.args.generator _ (sym (ap outcome_of c.in_err-first.was) ∙ c.new_genesis.ensures))

pub returns : goal.returns
returns c =
    fact_told c.args.generator (λ (m : FractionalMos). slice_get (children m) c.args.k)
    (sym (ap outcome_of c.in_ok-first.was) ∙ c.new_genesis.ensures) c.nth_from.ensures
