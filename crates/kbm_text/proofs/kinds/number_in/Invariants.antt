-- The digits before the index are read, and say a number below 10 to the power of it.
use Prim.Native.Nat.{◌≤◌}
use lib.ListN.{length}
use Rattle.kbm_text.proofs.Bytes.{Read}
use Rattle.kbm_text.proofs.kinds.number_in.Given as goal

abbrev pub invariant-loop-byte : goal.invariant-loop-byte
invariant-loop-byte l = Read l.line l.value l.byte-index × (1 ≤ length l.line) × (length l.line ≤ 5)
