-- Both products, summed in 64 bits.
use native.Mathlib.Omega.{arith}
use Rattle.mos.specs.Patterns.{size_of}
use Rattle.mos.proofs.parts.wide_size.Goals as goal

pub returns : goal.returns
unfolding size_of
returns c = omega arith
