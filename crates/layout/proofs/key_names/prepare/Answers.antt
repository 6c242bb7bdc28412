-- The numbers that follow from octave and generator, by the steps of the pattern that the questions found.
use Rattle.layout.proofs.Kept.{parts_found}
use Rattle.layout.proofs.Steps.{steps_left}
use borrow.Author.Rules.{rules}
use Rattle.layout.proofs.key_names.prepare.Goals as goal

pub solve_from_steps-requires : goal.solve_from_steps-requires
solve_from_steps-requires c = let p = parts_found c.args.found in (p.positive, steps_left _ p (search rules) (search rules))
