-- A number, or the mark.
use Rattle.kbm_text.proofs.WriteLaws.{number_length, mark_length}
use Rattle.kbm_text.proofs.writer.entry_len.Goals as goal

pub returns-then-mapped : goal.returns-then-mapped
returns-then-mapped c = number_length _ _ c.if-mapped.true _ c.number_len.ensures

pub returns : goal.returns
returns c = mark_length _ _ c.if-mapped.false
