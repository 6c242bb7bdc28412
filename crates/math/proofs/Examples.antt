-- The worked examples hold by computation.
use mathlib.Core.Path.{refl}
use Rattle.math.specs.Gcd.{gcd_or_one, lowest_terms}
use Rattle.math.specs.OddFactors.{odd_factors}
use Rattle.math.specs.Answers.{divide_outcome, div_outcome, rem_outcome}
use Rattle.math.specs.Examples.{ExamplesHold}

pub examples_hold : ExamplesHold
unfolding gcd_or_one lowest_terms odd_factors divide_outcome div_outcome rem_outcome
examples_hold =
    record {
      gcds = refl;
      fractions = refl;
      divided = refl;
      quotients = refl;
      remainders = refl;
      none_divided = refl;
      no_quotient = refl;
      no_remainder = refl;
      odds = refl;
    }
