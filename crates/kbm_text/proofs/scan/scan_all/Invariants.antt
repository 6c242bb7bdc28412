-- The lines before `at` are counted, and those from `at` on are to come (`Scanning`).
use Prim.Native.Nat.{◌-◌}
use lib.ListN.{length}
use Rattle.kbm_text.proofs.Scanning.{Scanning}
use Rattle.kbm_text.proofs.scan.scan_all.Given as goal

abbrev pub invariant-loop-at : goal.invariant-loop-at
invariant-loop-at l = Scanning l.octave l.text l.at l.s

abbrev pub decreases-loop-at : goal.decreases-loop-at
decreases-loop-at l = length l.text - l.at
