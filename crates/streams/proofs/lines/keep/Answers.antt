-- A byte of the first 18 is stored; a later one changes nothing.
use Rattle.std.proofs.Common.{sym}
use Rattle.streams.proofs.Keeping.{kept_below, kept_past}
use Rattle.streams.proofs.lines.keep.Goals as goal

pub returns-then-at-lt18 : goal.returns-then-at-lt18
returns-then-at-lt18 c = sym (kept_below _ _ _ c.if-at-lt18.true)

pub returns-else-at-lt18 : goal.returns-else-at-lt18
returns-else-at-lt18 c = sym (kept_past _ _ _ c.if-at-lt18.false)
