-- What equals itself is a number, and has bits.
use Rattle.replay.proofs.Doubles.{number}
use Rattle.replay.proofs.fractional.put_double.Goals as goal

pub float_to_bits-bits : goal.float_to_bits-bits
float_to_bits-bits c = number _ c.if-x.true
