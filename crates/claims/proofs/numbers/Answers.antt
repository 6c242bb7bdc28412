use Rattle.math.proofs.Gcd.{gcd_is_greatest}
use Rattle.math.proofs.Division.{remainder_law}
use Rattle.claims.proofs.numbers.Goals as goal

pub returns : goal.returns
returns c = (gcd_is_greatest, remainder_law)
