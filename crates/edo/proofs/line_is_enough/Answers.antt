use Rattle.edo.proofs.Printing.{line_is_enough}
use Rattle.edo.proofs.line_is_enough.Goals as goal

pub returns : goal.returns
returns c = line_is_enough
