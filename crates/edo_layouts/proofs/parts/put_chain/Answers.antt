-- No number, or three.
use Rattle.answer.specs.Refusals.{outcome_of}
use mathlib.Core.Path.{sym, ap, ◌∙◌}
use Rattle.text.proofs.Writing.{wrote_none, wrote_as}
use Rattle.edo_layouts.proofs.Listing.{chain_numbers_lem, no_numbers}
use Rattle.edo_layouts.proofs.parts.put_chain.Goals as goal

pub returns-in-Err : goal.returns-in-Err
returns-in-Err c =
    wrote_as (no_numbers _ _ _ _ (sym (ap outcome_of c.in-Err.is) ∙ c.serve.ensures)) (wrote_none _ _)

pub returns-in-Ok : goal.returns-in-Ok
returns-in-Ok c =
    wrote_as
    (chain_numbers_lem _ _ _ _
    (sym (ap outcome_of c.in-Ok.is)
    ∙ c.serve.ensures))
    c.put_three.ensures
