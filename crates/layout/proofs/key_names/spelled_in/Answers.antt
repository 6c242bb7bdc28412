-- The pergen's numbers, then the spellings by them.
use mathlib.Core.Path.{refl}
use native.Mathlib.Omega.{arith}
use borrow.Author.Rules.{rules}
use Rattle.pergen.proofs.CarriedWalk.{walkable, solved_period}
use Rattle.pergen.proofs.Calls.{accidentals_from_zero}
use Rattle.layout.specs.Layouts.{accidentals_in}
use Rattle.layout.proofs.Kept.{parts_found}
use Rattle.layout.proofs.Steps.{steps_left}
use Rattle.layout.proofs.key_names.spelled_in.Goals as goal

pub solve_from_steps-solved-requires : goal.solve_from_steps-solved-requires
solve_from_steps-solved-requires c =
    let p = parts_found c.args.found in (p.positive, steps_left _ p (search rules) (search rules))

pub spelled-requires : goal.spelled-requires
spelled-requires c =
    let p = parts_found c.args.found in
    let solved = c.solve_from_steps-solved.ensures in
    (p.start_below, walkable _ _ p.positive _ solved, omega (arith, c.requires, solved_period _ _ p.positive _ solved))

pub returns : goal.returns
unfolding accidentals_in
returns c =
    accidentals_from_zero _ _ _ c.solve_from_steps-solved.ensures _ _ _ _ _ (parts_found c.args.found).positive refl c.spelled.ensures
