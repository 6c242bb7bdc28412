-- A number below 0 is divided; any other is its cast, which is below the divisor or divided.
use mir.Syntax.{w32}
use Rattle.math.proofs.Answers.{remainder_found}
use Rattle.math.proofs.Division.{remainder_cast, remainder_kept}
use Rattle.math.proofs.Signed.{positive_cast, by_cast}
use Rattle.math.proofs.parts.rem_u32.Goals as goal

pub returns-then-numer-lt0 : goal.returns-then-numer-lt0
returns-then-numer-lt0 c = remainder_found w32 _ c.ranges.numer _ _ _ c.divide-divided.ensures

pub overflow_cast-number : goal.overflow_cast-number
overflow_cast-number c = positive_cast w32 c.args.numer c.ranges.numer c.if-numer-lt0.false

pub returns-then-number-denom : goal.returns-then-number-denom
returns-then-number-denom c =
    remainder_kept _ _ _ (by_cast w32 c.args.numer c.ranges.numer c.if-numer-lt0.false) c.if-number-denom.true

pub returns : goal.returns
returns c =
    remainder_cast _ _ _ (by_cast w32 c.args.numer c.ranges.numer c.if-numer-lt0.false)
