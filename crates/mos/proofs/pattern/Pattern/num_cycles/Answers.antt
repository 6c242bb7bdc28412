-- The divisor of the steps.
use Rattle.mos.specs.Patterns.{cycles_of}
use Rattle.mos.proofs.pattern.Pattern.num_cycles.Goals as goal

pub returns : goal.returns
unfolding cycles_of
returns c = (c.gcd_u16.ensures.is, c.gcd_u16.ensures.positive)
