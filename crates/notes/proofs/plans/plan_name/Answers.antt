-- The letters at both indices, and the plan by them.
use Rattle.notes.proofs.plans.plan_name.Goals as goal

pub plan_letters-requires : goal.plan_letters-requires
plan_letters-requires c = (c.letter_at-sharp.ensures.1, c.letter_at-flat.ensures.1)

pub returns : goal.returns
returns c =
    c.plan_letters.ensures _ (record { sharp_is = c.letter_at-sharp.ensures.0; flat_is = c.letter_at-flat.ensures.0 })
