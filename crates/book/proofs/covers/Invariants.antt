-- The pairs below `key` fit, and the next part is due at `due`; each turn checks one pair more.
use Rattle.book.proofs.Pairs.{Checked}
use Rattle.book.proofs.covers.Given as goal

abbrev pub invariant-loop-key : goal.invariant-loop-key
invariant-loop-key l = Checked l.book l.due l.key
