-- The length in the row.
use Rattle.genchain.proofs.TextTable.{row_count}
use Rattle.genchain.proofs.names.text_len.Goals as goal

pub returns : goal.returns
returns c = row_count _ c.requires _ c.row-found.ensures
