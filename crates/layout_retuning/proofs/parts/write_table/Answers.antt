-- Question 10 of the count, then the moves.
use Rattle.layout_retuning.proofs.Tables.{table_no_room, table_written}
use Rattle.layout_retuning.proofs.parts.write_table.Goals as goal

pub returns-then-out-count : goal.returns-then-out-count
returns-then-out-count c = table_no_room _ _ _ c.entries-count.ensures c.if-out-count.true

pub returns : goal.returns
returns c =
    table_written _ _ c.entries-count.ensures c.if-out-count.false
    c.put_moves.ensures
