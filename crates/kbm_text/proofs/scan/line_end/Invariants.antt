-- The bytes from `at` to `end` are on one line (`Going`); the last byte of the text is a line feed, so the walk ends within it.
use Prim.Native.Nat.{◌-◌}
use lib.ListN.{length}
use Rattle.kbm_text.proofs.LineLaws.{Going}
use Rattle.kbm_text.proofs.scan.line_end.Given as goal

abbrev pub invariant-loop-end : goal.invariant-loop-end
invariant-loop-end l = Going l.text l.at l.end

abbrev pub decreases-loop-end : goal.decreases-loop-end
decreases-loop-end l = length l.text - l.end
