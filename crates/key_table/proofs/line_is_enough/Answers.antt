use Rattle.key_table.proofs.OneLine.{line_is_enough}
use Rattle.key_table.proofs.line_is_enough.Goals as goal

pub returns : goal.returns
returns c = line_is_enough
