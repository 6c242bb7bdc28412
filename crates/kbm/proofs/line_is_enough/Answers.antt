use Rattle.kbm.proofs.Printing.{line_is_enough}
use Rattle.kbm.proofs.line_is_enough.Goals as goal

pub returns : goal.returns
returns c = line_is_enough
