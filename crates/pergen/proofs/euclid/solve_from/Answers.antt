-- The coefficient, counted forward below the reduced period, is the inverse.
use Rattle.pergen.proofs.ExtendedEuclid.{solve_is}
use Rattle.pergen.proofs.euclid.solve_from.Goals as goal

pub inverse_from-requires : goal.inverse_from-requires
inverse_from-requires c = c.extended_gcd-found.ensures.small

pub returns : goal.returns
returns c = solve_is _ _ c.requires.0 _ c.extended_gcd-found.ensures _ c.inverse_from.ensures
