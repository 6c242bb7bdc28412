-- Two differences of small numbers.
use Rattle.mos_moves.proofs.SignedRows.{octaves_fit, generators_fit, less_row_is}
use Rattle.mos_moves.proofs.parts.less_row.Goals as goal

pub overflow_sub-result : goal.overflow_sub-result
overflow_sub-result c = octaves_fit c.requires.0 c.requires.1

pub overflow_sub-result-2 : goal.overflow_sub-result-2
overflow_sub-result-2 c = generators_fit c.requires.0 c.requires.1

pub returns : goal.returns
returns c = less_row_is c.requires.0 c.requires.1
