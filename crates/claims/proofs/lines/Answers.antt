use Rattle.line.proofs.ReadBack.{lines_read_back}
use Rattle.line.proofs.Enough.{later_bytes_ignored}
use Rattle.streams.proofs.Enough.{first_line_is_enough}
use Rattle.claims.proofs.lines.Goals as goal

pub returns : goal.returns
returns c = (lines_read_back, later_bytes_ignored, first_line_is_enough)
