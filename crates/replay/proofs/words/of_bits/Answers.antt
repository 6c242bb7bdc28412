-- The comparison says that the bits are a number's.
use Rattle.replay.proofs.Doubles.{bits_of_number}
use Rattle.replay.proofs.words.of_bits.Goals as goal

pub float_from_bits-result : goal.float_from_bits-result
float_from_bits-result c = bits_of_number _ c.if-bits-gt9218868437227405312.false
