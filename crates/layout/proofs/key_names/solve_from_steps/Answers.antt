-- From the steps as they stand, or exchanged, where the primary one is the smaller.
use Rattle.pergen.proofs.ExtendedEuclid.{exchanged}
use Rattle.layout.proofs.key_names.solve_from_steps.Goals as goal

pub solve_from-requires : goal.solve_from-requires
solve_from-requires c =
    (c.requires.0, exchanged _ _ _ _ _ _ _ c.requires.1 c.if-pattern.true)
