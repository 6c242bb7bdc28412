-- The remainder is below the divisor, so it fits 16 bits.
use mir.Syntax.{w32}
use native.Mathlib.Omega.{arith}
use Rattle.math.proofs.Answers.{remainder_read}
use Rattle.math.proofs.Division.{remainder_below}
use Rattle.math.proofs.parts.rem_u16.Goals as goal

pub overflow_cast-result : goal.overflow_cast-result
overflow_cast-result c =
    omega (
      arith,
      remainder_read w32 c.args.numer c.ranges.numer _ _ c.rem_u32.ensures,
      remainder_below c.args.numer c.args.denom c.requires,
    )

pub returns : goal.returns
returns c = remainder_read w32 c.args.numer c.ranges.numer _ _ c.rem_u32.ensures
