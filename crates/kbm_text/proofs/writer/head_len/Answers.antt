-- Two numbers, and what stands between and behind them.
use Rattle.kbm_text.proofs.WriteLaws.{head_length}
use Rattle.kbm_text.proofs.writer.head_len.Goals as goal

pub returns : goal.returns
returns c = head_length _ _ c.number_len.ensures
