-- Each arm's numbers divide `numer` by `denom`: the laws of signed numbers, at 32 bits.
use mir.Syntax.{w32}
use Rattle.math.proofs.Congruence.{mod_room}
use Rattle.math.proofs.Signed.{mirror_fits, mirror_cast, mirror_quotient_fits, back_fits, divided_negative, positive_cast, positive_quotient_fits, divided_positive}
use Rattle.math.proofs.divide.Goals as goal

pub overflow_sub-mirror : goal.overflow_sub-mirror
overflow_sub-mirror c = mirror_fits w32 c.args.numer c.ranges.numer c.if-numer-lt0.true

pub overflow_cast-mirror : goal.overflow_cast-mirror
overflow_cast-mirror c = mirror_cast w32 c.args.numer c.ranges.numer c.if-numer-lt0.true

pub overflow_cast-turns : goal.overflow_cast-turns
overflow_cast-turns c = mirror_quotient_fits w32 c.args.numer c.ranges.numer c.if-numer-lt0.true _

pub overflow_sub-result : goal.overflow_sub-result
overflow_sub-result c = back_fits w32 c.args.numer c.ranges.numer c.if-numer-lt0.true _

pub overflow_sub-result-then-numer-lt0-2 : goal.overflow_sub-result-then-numer-lt0-2
overflow_sub-result-then-numer-lt0-2 c = mod_room _ _ c.requires

pub returns-then-numer-lt0 : goal.returns-then-numer-lt0
returns-then-numer-lt0 c = divided_negative w32 c.args.numer c.ranges.numer c.if-numer-lt0.true _ c.requires

pub overflow_cast-number : goal.overflow_cast-number
overflow_cast-number c = positive_cast w32 c.args.numer c.ranges.numer c.if-numer-lt0.false

pub overflow_cast-result : goal.overflow_cast-result
overflow_cast-result c = positive_quotient_fits w32 c.args.numer c.ranges.numer c.if-numer-lt0.false _

pub returns : goal.returns
returns c = divided_positive w32 c.args.numer c.ranges.numer c.if-numer-lt0.false _ c.requires
